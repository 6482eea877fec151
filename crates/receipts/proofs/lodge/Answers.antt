use Rattle.reached.specs.Needs.{calls, kept}
use Rattle.book.specs.declared.calls.Call.{Call}
use Rattle.book.specs.Calls.{step}
use Rattle.book.specs.Receipts.{lodge}
use Rattle.receipts.proofs.lodge.Goals as goal

pub invariant_of-month : goal.invariant_of-month
unfolding step lodge
invariant_of-month c = kept c.month.inside.book.receipt_count (Call.Lodge c.args.owner c.args.class) c.month.invariant (search calls)
