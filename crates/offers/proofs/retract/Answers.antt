use Rattle.reached.specs.Needs.{calls, kept}
use Rattle.book.specs.declared.calls.Call.{Call}
use Rattle.book.specs.Calls.{step}
use Rattle.book.specs.Offers.{retract}
use Rattle.offers.proofs.retract.Goals as goal

pub invariant_of-month : goal.invariant_of-month
unfolding step retract
invariant_of-month c = kept 0 (Call.Retract c.args.seller) c.month.invariant (search calls)
