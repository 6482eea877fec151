use Rattle.reached.specs.Needs.{left_by}
use Rattle.book.specs.declared.calls.Call.{Call}
use Rattle.book.specs.Calls.{step}
use Rattle.accounts.proofs.next_day.Goals as goal

pub invariant_of-month : goal.invariant_of-month
unfolding step
invariant_of-month c = left_by _ (Call.Day c.args.price) c.month.invariant c.next_day_of.ensures
