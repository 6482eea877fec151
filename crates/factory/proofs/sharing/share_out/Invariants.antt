use Rattle.std.specs.Prelude.{map}
use Rattle.factory.proofs.laws.Rounds.{rounded}
use Rattle.factory.proofs.laws.Levels.{at_level}
use Rattle.factory.proofs.LastRound.{SharedTo}
use Rattle.factory.proofs.sharing.share_out.Given as goal

abbrev pub invariant-loop-left : goal.invariant-loop-left
invariant-loop-left l = SharedTo l.whole l.fn.holders (rounded l.initial.rest (map (at_level l.whole) l.fn.holders)) l.left-index l.rest l.holders l.shares.items
