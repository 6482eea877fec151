use Rattle.closing.specs.Asked.{units_on}
use Rattle.closing.proofs.Grouping.{MappedTo}
use Rattle.closing.proofs.fewest.units_on.Given as goal

abbrev pub invariant-loop-k : goal.invariant-loop-k
invariant-loop-k l = MappedTo (units_on l.book l.side) l.accounts l.k-index l.list.items
