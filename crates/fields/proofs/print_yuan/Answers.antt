-- With `yuan_prints` in `using` the search stops at its limits.
use Rattle.std.proofs.Common.{arith, ap}
use Rattle.std.specs.Prelude.{length}
use Rattle.fields.proofs.Aligning.{yuan_prints}
use Rattle.fields.proofs.print_yuan.Goals as goal

pub returns-clause-printed : goal.returns-clause-printed
returns-clause-printed c =
    yuan_prints c.args.sign.now c.args.fen _ (omega (arith, ap length c.decimal-yuan.ensures.text)) c.print_spaces.ensures.printed c.bytes.ensures (rw c.decimal-yuan.ensures.text at c.bytes-2.ensures) c.byte.ensures c.last_digit.ensures c.last_digit-2.ensures
