use Rattle.reached.specs.Needs.{left_by}
use Rattle.book.specs.declared.calls.Call.{Call}
use Rattle.book.specs.Calls.{step}
use Rattle.accounts.proofs.join.Goals as goal

pub invariant_of-month : goal.invariant_of-month
unfolding step
invariant_of-month c = left_by _ (Call.Join c.args.residence c.args.fitness) c.month.invariant c.join_to.ensures
