use Rattle.std.specs.Prelude.{◌^◌, ◌<◌, length}
use Rattle.std.proofs.Common.{arith}
use Rattle.std.proofs.lemmas.Nat.{pow_pos}
use Rattle.masks.proofs.Grouping.{chosen_there}
use Rattle.masks.proofs.choose_groups.Goals as goal

pub rest-requires-clause-there : goal.rest-requires-clause-there
rest-requires-clause-there c =
    let h : c.tests_made-tests.result < 2 ^ length c.args.longs.now = omega (arith, pow_pos) in
    rw (c.masks.ensures, c.tested_choice-chosen.ensures) (chosen_there _ _ _ c.requires.few c.requires.same h)
