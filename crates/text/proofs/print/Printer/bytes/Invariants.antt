-- The loop's invariant: the bytes passed are written. Assumes nothing.
use Rattle.std.proofs.Common.{◌≡◌, take}
use Rattle.text.proofs.print.Printer.bytes.Given as goal

abbrev pub invariant-loop-i : goal.invariant-loop-i
invariant-loop-i l = take l.i l.part ≡ take l.i l.src
