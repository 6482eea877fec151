-- Within the crate's tactic the search does not find the bound of the sum. Assumes nothing.
use Rattle.reached.specs.Needs.{calls, kept}
use Rattle.book.specs.declared.calls.Call.{Call}
use Rattle.book.specs.Calls.{step}
use Rattle.book.specs.Accounts.{deposit}
use Rattle.book.specs.Tables.{pay}
use Rattle.accounts.proofs.deposit.Goals as goal

pub overflow_add-month-inside : goal.overflow_add-month-inside
overflow_add-month-inside c = search calls

pub invariant_of-month : goal.invariant_of-month
unfolding step deposit pay
invariant_of-month c = kept 0 (Call.Deposit c.args.account c.args.amount) c.month.invariant (search calls)
