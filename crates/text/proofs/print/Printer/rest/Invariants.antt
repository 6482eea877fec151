-- The loop's invariant: the numbers passed are printed. Assumes nothing.
use Rattle.std.proofs.Common.{take}
use Rattle.text.specs.Print.{spaced}
use Rattle.text.proofs.Printing.{Printed}
use Rattle.text.proofs.print.Printer.rest.Given as goal

abbrev pub invariant-loop-n : goal.invariant-loop-n
invariant-loop-n l = Printed 21 (λ k. spaced (take k l.ns)) l.initial.self l.self l.n-index
