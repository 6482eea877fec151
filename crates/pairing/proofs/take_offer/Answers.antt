use Rattle.reached.specs.Needs.{calls, kept}
use Rattle.book.specs.declared.calls.Call.{Call}
use Rattle.book.specs.Calls.{step}
use Rattle.book.specs.Offers.{take_offer}
use Rattle.pairing.proofs.take_offer.Goals as goal

pub invariant_of-month : goal.invariant_of-month
unfolding step take_offer
invariant_of-month c = kept c.month.inside.book.match_count (Call.Take c.args.buyer c.args.seller) c.month.invariant (search calls)
