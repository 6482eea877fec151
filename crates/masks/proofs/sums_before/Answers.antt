use Rattle.masks.proofs.Adding.{none_summed, one_summed}
use Rattle.masks.proofs.sums_before.Goals as goal

pub loop-units-init : goal.loop-units-init
loop-units-init c = none_summed c.args.units.now c.new-sums.ensures

pub loop-units-preserved : goal.loop-units-preserved
loop-units-preserved c = one_summed c.loop-units.invariant c.loop-units-test.true c.push.ensures.items c.from-sum.ensures (c.type_inv.units _)
