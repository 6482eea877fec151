use Rattle.reached.specs.Needs.{calls, kept}
use Rattle.book.specs.declared.calls.Call.{Call}
use Rattle.book.specs.Calls.{step}
use Rattle.book.specs.Settlement.{terminate}
use Rattle.measuring.proofs.terminate.Goals as goal

pub invariant_of-month : goal.invariant_of-month
unfolding step terminate
invariant_of-month c = kept 0 (Call.Terminate c.args.number c.args.party) c.month.invariant (search calls)
