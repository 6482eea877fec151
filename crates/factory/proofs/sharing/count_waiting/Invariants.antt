use Rattle.factory.proofs.Counting.{CountedTo}
use Rattle.factory.proofs.sharing.count_waiting.Given as goal

abbrev pub invariant-loop-had : goal.invariant-loop-had
invariant-loop-had l = CountedTo l.rounds l.holders l.had-index l.waiting.count l.waiting.least
