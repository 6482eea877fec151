use Rattle.std.proofs.Common.{rules}
use Rattle.factory.specs.declared.Call.{Call}
use Rattle.factory.specs.Holders.{leave}
use Rattle.factory.specs.Lists.{step}
use Rattle.factory.proofs.Reaching.{kept}
use Rattle.factory.proofs.Factory.leave.Goals as goal

pub invariant_of-self : goal.invariant_of-self
unfolding step leave
invariant_of-self c = kept (Call.Leave c.args.place) c.self.invariant (search rules)
