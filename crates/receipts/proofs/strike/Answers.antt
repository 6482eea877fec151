use Rattle.reached.specs.Needs.{calls, kept}
use Rattle.book.specs.declared.calls.Call.{Call}
use Rattle.book.specs.Calls.{step}
use Rattle.book.specs.Receipts.{strike}
use Rattle.receipts.proofs.strike.Goals as goal

pub invariant_of-month : goal.invariant_of-month
unfolding step strike
invariant_of-month c = kept 0 (Call.Strike c.args.owner c.args.receipt) c.month.invariant (search calls)
