use Rattle.masks.proofs.Tabling.{AddsAbove}
use Rattle.masks.proofs.add_mask.Given as goal

abbrev pub invariant-loop-used : goal.invariant-loop-used
invariant-loop-used l = AddsAbove l.count l.mask l.used l.initial.table l.table

abbrev pub decreases-loop-used : goal.decreases-loop-used
decreases-loop-used l = l.used
