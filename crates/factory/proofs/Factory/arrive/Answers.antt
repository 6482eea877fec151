use Rattle.std.proofs.Common.{rules}
use Rattle.factory.specs.declared.Call.{Call}
use Rattle.factory.specs.Holders.{arrive}
use Rattle.factory.specs.Lists.{step}
use Rattle.factory.proofs.Reaching.{kept}
use Rattle.factory.proofs.Factory.arrive.Goals as goal

pub invariant_of-self-2 : goal.invariant_of-self-2
unfolding step arrive
invariant_of-self-2 c = kept (Call.Arrive c.args.claim) c.self.invariant (search rules)
