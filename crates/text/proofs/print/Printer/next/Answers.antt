-- With `prints_then` in `using` the search stops at its limits.
use Rattle.text.proofs.Printing.{prints_then}
use Rattle.text.proofs.print.Printer.next.Goals as goal

pub returns-clause-printed : goal.returns-clause-printed
returns-clause-printed c = prints_then c.byte.ensures c.number.ensures.printed
