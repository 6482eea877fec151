use Rattle.std.proofs.Common.{rules, sym, ◌∙◌}
use Rattle.masks.proofs.Tabling.{none_chosen, none_tabled, has_room, this_group, one_tabled, all_tabled}
use Rattle.masks.proofs.choose.Goals as goal

pub loop-mask-init : goal.loop-mask-init
loop-mask-init c = none_tabled c.requires.few (search rules) c.requires.groups (search rules)

pub add_mask-requires-clause-group : goal.add_mask-requires-clause-group
add_mask-requires-clause-group c = this_group c.loop-mask.invariant _ _ c.in-Some.ensures.steps

pub add_mask-requires-clause-room : goal.add_mask-requires-clause-room
add_mask-requires-clause-room c = has_room c.loop-mask.invariant

pub loop-mask-preserved : goal.loop-mask-preserved
loop-mask-preserved c = one_tabled c.loop-mask.invariant _ _ c.in-Some.ensures.steps c.add_mask.ensures

pub returns : goal.returns
returns c = all_tabled c.loop-mask.invariant c.in-None.ensures.steps.0 _

pub returns-then-is_empty : goal.returns-then-is_empty
returns-then-is_empty c = c.new.ensures ∙ sym (none_chosen c.args.masks.now (search rules))
