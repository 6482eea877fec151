-- The turns that are left, done to the receipts as they are, come to the whole. Assumes nothing.
use Rattle.std.proofs.Common.{length}
use Rattle.book.specs.Counting.{iter}
use Rattle.book.specs.Settlement.{release_turn}
use Rattle.reached.specs.Loops.{Turned}
use Rattle.payments.proofs.free_again.Given as goal

abbrev pub invariant-loop-receipt : goal.invariant-loop-receipt
invariant-loop-receipt l =
    let receipts = l.initial.receipt-items in
    Turned (release_turn l.number) (length receipts) (iter (length receipts) 0 (release_turn l.number) receipts) l.receipt-index l.receipt-items
