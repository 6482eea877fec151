use Rattle.std.specs.Iterator.Adapters.{rev_source}
use Rattle.std.specs.Slice.Iter.{iter_rest}
use Rattle.masks.proofs.Tabling.{Tabled}
use Rattle.masks.proofs.choose.Given as goal

abbrev pub invariant-loop-mask : goal.invariant-loop-mask
invariant-loop-mask l = Tabled l.count l.masks (iter_rest (rev_source l.mask-iterator)) l.table
