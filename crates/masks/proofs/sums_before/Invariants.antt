use Rattle.masks.proofs.Adding.{SummedTo}
use Rattle.masks.proofs.sums_before.Given as goal

abbrev pub invariant-loop-units : goal.invariant-loop-units
invariant-loop-units l = SummedTo l.units l.units-index l.sum l.sums.items
