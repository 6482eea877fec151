use Rattle.std.proofs.Common.{rules}
use Rattle.factory.specs.Holders.{making}
use Rattle.factory.proofs.Reaching.{begun}
use Rattle.factory.proofs.Factory.new.Goals as goal

pub invariant_of-result : goal.invariant_of-result
unfolding making
invariant_of-result c = begun c.args.daily (search rules)
