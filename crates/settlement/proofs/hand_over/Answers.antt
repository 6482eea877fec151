use Rattle.reached.specs.Needs.{calls, kept}
use Rattle.book.specs.declared.calls.Call.{Call}
use Rattle.book.specs.Calls.{step}
use Rattle.book.specs.Settlement.{hand_over}
use Rattle.settlement.proofs.hand_over.Goals as goal

pub invariant_of-month : goal.invariant_of-month
unfolding step hand_over
invariant_of-month c = kept 0 (Call.HandOver c.args.number) c.month.invariant (search calls)
