use Rattle.std.proofs.Common.{refl, sym, ◌∙◌, arith}
use Rattle.std.proofs.lemmas.List.{take_all}
use Rattle.text.proofs.Printing.{part_length, put_part}
use Rattle.text.proofs.print.Printer.bytes.Goals as goal

pub returns : goal.returns
returns c =
    let e = sym (take_all c.loop-i.i c.loop-i.part (omega arith)) ∙ (c.loop-i.invariant ∙ take_all c.loop-i.i c.args.src.now (omega arith)) in
    record { same = refl; long = part_length _ _ _ _ _ e refl c.requires; put = put_part _ _ _ _ _ e refl c.requires }
