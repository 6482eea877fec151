use Rattle.factory.proofs.Leaving.{CarriedTo}
use Rattle.factory.proofs.remove.Given as goal

abbrev pub invariant-loop-k : goal.invariant-loop-k
invariant-loop-k l = CarriedTo l.fn.holders.items l.place l.k l.holders.items l.carried
