use Rattle.reached.specs.Needs.{calls, kept}
use Rattle.book.specs.declared.calls.Call.{Call}
use Rattle.book.specs.Calls.{step}
use Rattle.book.specs.Settlement.{auction, auctioned}
use Rattle.auction.proofs.auction.Goals as goal

pub invariant_of-month : goal.invariant_of-month
unfolding step auction auctioned
invariant_of-month c = kept 0 (Call.Auction c.args.number c.args.winner c.args.proceeds) c.month.invariant (search calls)

pub invariant_of-month-2 : goal.invariant_of-month-2
unfolding step auction auctioned
invariant_of-month-2 c = kept 0 (Call.Auction c.args.number c.args.winner c.args.proceeds) c.month.invariant (search calls)
