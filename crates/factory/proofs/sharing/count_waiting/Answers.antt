use Rattle.std.proofs.Common.{arith}
use Rattle.factory.proofs.Counting.{one_counted, passed_over, all_counted}
use Rattle.factory.proofs.sharing.count_waiting.Goals as goal
use Rattle.factory.proofs.sharing.count_waiting.Goals.{then-rounds-had, else-rounds-had}

pub loop-had-preserved : goal.loop-had-preserved
loop-had-preserved c =
    elim c.if-rounds-had.branch [
      | then-rounds-had w ↦ rw (w.waiting-is, w.min.ensures) (one_counted c.loop-had.invariant c.loop-had-test.true w.if-rounds-had.true (omega (arith, c.type_inv.holders c.loop-had.had-index)))
      | else-rounds-had w ↦ rw w.waiting-is (passed_over c.loop-had.invariant c.loop-had-test.true w.if-rounds-had.false)
    ]

pub returns : goal.returns
returns c = all_counted c.loop-had.invariant c.loop-had-test.false
