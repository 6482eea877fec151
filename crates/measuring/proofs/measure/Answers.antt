use Rattle.std.proofs.Common.{arith, rules}
use Rattle.reached.specs.Needs.{calls, kept}
use Rattle.book.specs.declared.calls.Call.{Call}
use Rattle.book.specs.Calls.{step}
use Rattle.book.specs.Settlement.{measure}
use Rattle.measuring.proofs.Vessels.{within}
use Rattle.measuring.proofs.measure.Goals as goal

pub vessel_amount-amount-requires-clause-weight_bound : goal.vessel_amount-amount-requires-clause-weight_bound
vessel_amount-amount-requires-clause-weight_bound c = omega (arith, within _ c.in_ok-m.m c.args.due_weight c.in_ok-m.ensures.there.2 (search rules))

pub loaded-requires-clause-dues_bound : goal.loaded-requires-clause-dues_bound
loaded-requires-clause-dues_bound c = within _ c.in_ok-m.m c.args.due_weight c.in_ok-m.ensures.there.2 (search rules)

pub invariant_of-month : goal.invariant_of-month
unfolding step measure
invariant_of-month c = kept c.vessel_amount-amount.result.1 (Call.Measure c.args.number c.args.sample.now c.args.due_weight) c.month.invariant (search calls)
