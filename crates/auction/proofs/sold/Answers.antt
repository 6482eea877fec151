-- After the winner's payment the match can be handed over; with the lemma in `using` the search gives up at its limits. Assumes nothing.
use Rattle.std.proofs.Common.{rules}
use Rattle.payments.proofs.Money.{handing_sold}
use Rattle.auction.proofs.sold.Goals as goal

pub handed-requires : goal.handed-requires
handed-requires c = search (rules, handing_sold)
