use Rattle.factory.proofs.Leaving.{all_moved}
use Rattle.factory.proofs.remove.Goals as goal

pub returns-after-loop-k : goal.returns-after-loop-k
returns-after-loop-k c = all_moved c.loop-k.invariant c.loop-k-test.false
