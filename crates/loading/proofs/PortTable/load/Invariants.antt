use Rattle.loading.proofs.Reading.{Read}
use Rattle.loading.proofs.PortTable.load.Given as goal

abbrev pub invariant-loop-k : goal.invariant-loop-k
invariant-loop-k l = Read l.bytes l.k l.entries l.before
