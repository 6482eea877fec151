use Rattle.std.proofs.Common.{refl}
use Rattle.std.proofs.lemmas.List.{length-replicate}
use Rattle.text.proofs.Printing.{part_length, put_part}
use Rattle.fields.proofs.Aligning.{filled}
use Rattle.fields.proofs.print_spaces.Goals as goal

pub returns-clause-printed : goal.returns-clause-printed
returns-clause-printed c =
    let e = filled _ _ _ _ c.requires (c.fill.ensures.after (λ y h. h)) in
    record { same = refl; long = part_length _ _ _ _ _ e (length-replicate _ _) c.requires; put = put_part _ _ _ _ _ e (length-replicate _ _) c.requires }
