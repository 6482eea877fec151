use Rattle.std.specs.Prelude.{length}
use Rattle.book.specs.Counting.{iter}
use Rattle.book.specs.Pairing.{freeze_turn}
use Rattle.reached.specs.Loops.{Turned}
use Rattle.pairing.proofs.freeze.Given as goal

abbrev pub invariant-loop-receipt : goal.invariant-loop-receipt
invariant-loop-receipt l =
    let f = freeze_turn l.bonded l.seller l.number in
    let n = length l.fn.lodged in
    Turned f n (iter n 0 f (record { receipts = l.fn.lodged; left = l.units })) l.receipt-index (record { receipts = l.lodged; left = l.left })
