use Rattle.reached.specs.Needs.{calls, kept}
use Rattle.book.specs.declared.calls.Call.{Call}
use Rattle.book.specs.Calls.{step}
use Rattle.book.specs.Offers.{declare}
use Rattle.offers.proofs.declare.Goals as goal

pub invariant_of-month : goal.invariant_of-month
unfolding step declare
invariant_of-month c = kept 0 (Call.Declare c.args.account c.args.heat) c.month.invariant (search calls)
