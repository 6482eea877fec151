use Rattle.std.proofs.Common.{rules, arith}
use Rattle.text.proofs.Lent.{page_short, page_written}
use Rattle.columns.proofs.put_page.Goals as goal

pub returns-then-out-length : goal.returns-then-out-length
returns-then-out-length c = rw (← c.month.view_is) (page_short c.month.invariant (omega arith) c.if-out-length.true)

pub returns : goal.returns
returns c = rw (← c.month.view_is) (page_written c.month.invariant (omega arith) {j = c.print_page.new.printer.at} c.if-out-length.false (search rules))
