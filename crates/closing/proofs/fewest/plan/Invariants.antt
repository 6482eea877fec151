use Rattle.closing.proofs.Planning.{PlannedTo}
use Rattle.closing.proofs.fewest.plan.Given as goal

abbrev pub invariant-loop-mask : goal.invariant-loop-mask
invariant-loop-mask l = PlannedTo l.book l.accounts l.mask-items l.mask-index l.pairs.items
