use Rattle.reached.specs.Needs.{calls, kept}
use Rattle.book.specs.declared.calls.Call.{Call}
use Rattle.book.specs.Calls.{step}
use Rattle.book.specs.Offers.{offer}
use Rattle.offers.proofs.offer.Goals as goal

pub invariant_of-month : goal.invariant_of-month
unfolding step offer
invariant_of-month c = kept 0 (Call.Offer c.args.seller c.args.units) c.month.invariant (search calls)
