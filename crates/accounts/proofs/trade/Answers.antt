use Rattle.reached.specs.Needs.{calls, kept}
use Rattle.book.specs.declared.calls.Call.{Call}
use Rattle.book.specs.Calls.{step}
use Rattle.book.specs.Accounts.{trade}
use Rattle.accounts.proofs.trade.Goals as goal

pub invariant_of-month : goal.invariant_of-month
unfolding step trade
invariant_of-month c = kept 0 (Call.Trade c.args.buyer c.args.seller c.args.units) c.month.invariant (search calls)
