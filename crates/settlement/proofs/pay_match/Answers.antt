use Rattle.reached.specs.Needs.{calls, kept}
use Rattle.book.specs.declared.calls.Call.{Call}
use Rattle.book.specs.Calls.{step}
use Rattle.book.specs.Settlement.{pay_match}
use Rattle.settlement.proofs.pay_match.Goals as goal

pub invariant_of-month : goal.invariant_of-month
unfolding step pay_match
invariant_of-month c = kept 0 (Call.Pay c.args.number) c.month.invariant (search calls)
