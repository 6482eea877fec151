use Rattle.std.proofs.Common.{rules, refl}
use Rattle.masks.proofs.Tabling.{none_added, room, all_added, one_added}
use Rattle.masks.proofs.Uniting.{others}
use Rattle.masks.proofs.add_mask.Goals as goal

pub loop-used-init : goal.loop-used-init
loop-used-init c =
    none_added c.requires.few c.requires.group (rw c.mask_count.ensures (others c.args.count c.args.mask c.requires.few c.requires.group.few)) (search rules)

pub take_longer-requires : goal.take_longer-requires
take_longer-requires c = room c.loop-used.invariant c.requires.group _ c.requires.room

pub returns-then-used-eq0 : goal.returns-then-used-eq0
returns-then-used-eq0 c = all_added c.loop-used.invariant c.requires.group _ _ c.take_longer.ensures refl c.if-used-eq0.true

pub loop-used-preserved : goal.loop-used-preserved
loop-used-preserved c =
    one_added c.loop-used.invariant c.requires.group _ _ c.take_longer.ensures refl c.if-used-eq0.false
    (rw c.mask_count.ensures (others c.args.count c.args.mask c.requires.few c.requires.group.few))
