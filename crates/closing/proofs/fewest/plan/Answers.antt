use Rattle.std.proofs.Common.{◌∙◌}
use Rattle.closing.proofs.Planning.{there, sided, tested, groups_of, none_planned, all_planned, group_room, one_planned}
use Rattle.closing.proofs.fewest.plan.Goals as goal
use Rattle.closing.proofs.fewest.plan.Goals.{then-groups-gt1, else-groups-gt1}

pub units_on-longs-requires-clause-there : goal.units_on-longs-requires-clause-there
units_on-longs-requires-clause-there c = there c.requires.core c.requires.accounts

pub units_on-shorts-requires-clause-there : goal.units_on-shorts-requires-clause-there
units_on-shorts-requires-clause-there c = there c.requires.core c.requires.accounts

pub choose_groups-groups-requires-clause-sided : goal.choose_groups-groups-requires-clause-sided
choose_groups-groups-requires-clause-sided c = rw (c.deref.ensures.0, c.deref-2.ensures.0) (sided c.requires.core c.requires.accounts c.units_on-longs.ensures c.units_on-shorts.ensures)

pub loop-mask-init : goal.loop-mask-init
loop-mask-init c =
    let e = c.choose_groups-groups.ensures in
    let g = groups_of _ c.args.budget c.requires.accounts c.requires.few c.units_on-longs.ensures c.units_on-shorts.ensures (rw (c.deref.ensures.0, c.deref-2.ensures.0) at e.chosen) (rw c.deref.ensures.0 at e.rest) in
    none_planned c.args.budget c.requires.accounts c.requires.few (c.masks-mask-items.ensures ∙ g.chosen_are) c.new-pairs.ensures

pub walk_group-requires-clause-there : goal.walk_group-requires-clause-there
walk_group-requires-clause-there c = there c.requires.core c.requires.accounts

pub walk_group-requires-clause-room : goal.walk_group-requires-clause-room
walk_group-requires-clause-room c = group_room c.loop-mask.invariant c.loop-mask-test.true

pub loop-mask-preserved : goal.loop-mask-preserved
loop-mask-preserved c = one_planned c.loop-mask.invariant c.loop-mask-test.true c.walk_group.ensures

pub walk_group-requires-then-groups-gt1-clause-there : goal.walk_group-requires-then-groups-gt1-clause-there
walk_group-requires-then-groups-gt1-clause-there c = there c.requires.core c.requires.accounts

pub walk_group-requires-then-groups-gt1-clause-room : goal.walk_group-requires-then-groups-gt1-clause-room
walk_group-requires-then-groups-gt1-clause-room c =
    let e = c.choose_groups-groups.ensures in
    let g = groups_of _ c.args.budget c.requires.accounts c.requires.few c.units_on-longs.ensures c.units_on-shorts.ensures (rw (c.deref.ensures.0, c.deref-2.ensures.0) at e.chosen) (rw c.deref.ensures.0 at e.rest) in
    rw (all_planned c.loop-mask.invariant c.loop-mask-test.false, c.masks-mask-items.ensures) g.room

pub returns-clause-pairs : goal.returns-clause-pairs
returns-clause-pairs c =
    let e = c.choose_groups-groups.ensures in
    let g = groups_of _ c.args.budget c.requires.accounts c.requires.few c.units_on-longs.ensures c.units_on-shorts.ensures (rw (c.deref.ensures.0, c.deref-2.ensures.0) at e.chosen) (rw c.deref.ensures.0 at e.rest) in
    let p = all_planned c.loop-mask.invariant c.loop-mask-test.false in
    elim c.if-groups-gt1.branch [
      | then-groups-gt1 w ↦ rw w.pairs-is (w.walk_group-then-groups-gt1.ensures ∙ rw (p, c.masks-mask-items.ensures) g.walked)
      | else-groups-gt1 w ↦ rw w.pairs-is (p ∙ rw c.masks-mask-items.ensures (g.alone w.if-groups-gt1.false))
    ]

pub returns-clause-tests : goal.returns-clause-tests
returns-clause-tests c = (rw c.deref.ensures.0 at c.choose_groups-groups.ensures.tests) ∙ tested _ c.args.budget c.requires.accounts c.requires.few c.units_on-longs.ensures c.units_on-shorts.ensures
