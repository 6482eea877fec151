use Rattle.std.proofs.Common.{◌≡◌, ◌+◌}
use Rattle.factory.specs.Rounds.{taken, turns_left}
use Rattle.factory.proofs.sharing.whole_rounds.Given as goal

abbrev pub invariant-loop-rounds : goal.invariant-loop-rounds
invariant-loop-rounds l = taken l.rounds.whole l.holders + l.rounds.rest ≡ l.daily

abbrev pub decreases-loop-rounds : goal.decreases-loop-rounds
decreases-loop-rounds l = turns_left l.rounds.whole l.rounds.rest l.holders
