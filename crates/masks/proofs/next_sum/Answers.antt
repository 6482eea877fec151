use Rattle.std.proofs.Common.{arith}
use Rattle.masks.proofs.Adding.{place_there, sum_fits, sum_enough, sum_next}
use Rattle.masks.proofs.next_sum.Goals as goal

pub bounds-units-lowest : goal.bounds-units-lowest
bounds-units-lowest c = let r = c.requires in place_there c.args.units.now c.args.mask r.few r.some r.there

pub overflow_add-result : goal.overflow_add-result
overflow_add-result c = let r = c.requires in sum_fits c.args.units.now c.args.mask r.few r.some r.there r.summed c.from.ensures c.type_inv.units

pub bounds-before-lowest : goal.bounds-before-lowest
bounds-before-lowest c = let r = c.requires in omega (arith, place_there c.args.units.now c.args.mask r.few r.some r.there, r.before.size)

pub overflow_sub-result : goal.overflow_sub-result
overflow_sub-result c = let r = c.requires in sum_enough c.args.units.now c.args.mask r.few r.some r.there r.summed c.from.ensures r.before

pub returns : goal.returns
returns c = let r = c.requires in sum_next c.args.units.now c.args.mask r.few r.some r.there r.summed c.from.ensures r.before
