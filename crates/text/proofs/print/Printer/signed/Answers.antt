-- With `prints_then` in `using` the search stops at its limits.
use Rattle.text.specs.Print.{digits}
use Rattle.text.proofs.Printing.{prints_then}
use Rattle.text.proofs.Signs.{below}
use Rattle.text.proofs.print.Printer.signed.Goals as goal

pub returns-then-z-lt0-clause-printed : goal.returns-then-z-lt0-clause-printed
returns-then-z-lt0-clause-printed c =
    rw (← (below c.args.z digits c.ranges.z c.if-z-lt0.true), ← c.unsigned_abs.ensures.value) (prints_then c.byte.ensures c.number.ensures.printed)
