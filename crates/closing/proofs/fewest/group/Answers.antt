use Rattle.std.proofs.Common.{rules}
use Rattle.closing.proofs.Grouping.{none_grouped, one_grouped, not_grouped}
use Rattle.closing.proofs.fewest.group.Goals as goal
use Rattle.closing.proofs.fewest.group.Goals.{then-holds+then-eq, else-holds}

pub loop-place-init : goal.loop-place-init
loop-place-init c = none_grouped c.new-list.ensures

pub loop-place-preserved : goal.loop-place-preserved
loop-place-preserved c =
    elim c.if-holds.branch [
      | then-holds+then-eq w ↦ one_grouped c.loop-place.invariant c.loop-place-test.true (rw (← w.list-is) at w.push.ensures.items) (search rules) (search rules)
      | else-holds w ↦ rw w.list-is (not_grouped c.loop-place.invariant c.loop-place-test.true (search rules))
    ]
