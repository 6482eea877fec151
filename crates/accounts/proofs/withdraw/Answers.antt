use Rattle.reached.specs.Needs.{calls, kept}
use Rattle.book.specs.declared.calls.Call.{Call}
use Rattle.book.specs.Calls.{step}
use Rattle.book.specs.Accounts.{withdraw}
use Rattle.book.specs.Tables.{charge}
use Rattle.accounts.proofs.withdraw.Goals as goal

pub invariant_of-month : goal.invariant_of-month
unfolding step withdraw charge
invariant_of-month c = kept 0 (Call.Withdraw c.args.account c.args.amount) c.month.invariant (search calls)
