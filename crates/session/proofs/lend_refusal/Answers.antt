use Rattle.std.proofs.Common.{◌≡◌, refl, rules, arith}
use Rattle.text.specs.Page.{lent}
use Rattle.text.proofs.Lent.{lent_written}
use Rattle.session.proofs.Paging.{lent_none, lent_again}
use Rattle.session.proofs.lend_refusal.Goals as goal

pub returns-then-out-length-clause-count : goal.returns-then-out-length-clause-count
returns-then-out-length-clause-count c = (lent_none _ (omega (arith, c.answer.ensures.printed.put.next, c.if-out-length.true))).0

pub returns-then-out-length-clause-text : goal.returns-then-out-length-clause-text
returns-then-out-length-clause-text c = (lent_none _ (omega (arith, c.answer.ensures.printed.put.next, c.if-out-length.true))).1

pub returns-clause-count : goal.returns-clause-count
returns-clause-count c = (lent_again _ _ (rw c.new-printer.ensures.start at c.answer.ensures.printed.put) c.if-out-length.false refl).0

pub returns-clause-text : goal.returns-clause-text
returns-clause-text c =
    let line = rw c.new-printer.ensures.start at c.answer.ensures.printed.put in
    let front = rw (c.new-front.ensures.start, c.new-front.ensures.buffer, line.text) at c.bytes.ensures.put in
    let written : c.bytes.new.self.out.now ≡ lent _ c.args.out.now = lent_written _ (omega (arith, line.next, c.if-out-length.false)) front in
    search rules
