-- The turns that are left, done to the receipts as they are, come to the whole. Assumes nothing.
use Rattle.std.specs.Prelude.{length}
use Rattle.book.specs.Counting.{iter}
use Rattle.book.specs.Settlement.{pass_turn}
use Rattle.reached.specs.Loops.{Turned}
use Rattle.payments.proofs.pass_receipts.Given as goal

abbrev pub invariant-loop-receipt : goal.invariant-loop-receipt
invariant-loop-receipt l =
    let n = length l.fn.lodged in
    Turned (pass_turn l.number l.taker) n (iter n 0 (pass_turn l.number l.taker) l.fn.lodged) l.receipt-index l.lodged
