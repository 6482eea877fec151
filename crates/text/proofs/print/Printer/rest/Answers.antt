-- One number more. Assumes nothing.
use Rattle.std.proofs.Common.{arith}
use Rattle.text.proofs.Printing.{spaced_more}
use Rattle.text.proofs.print.Printer.rest.Goals as goal

pub loop-n-preserved : goal.loop-n-preserved
loop-n-preserved c = record { few = omega arith; printed = spaced_more _ _ (omega arith) c.loop-n.invariant.printed c.next.ensures.printed }
