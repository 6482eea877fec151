-- The loop's invariant: the rows passed are printed. Assumes nothing.
use Rattle.std.proofs.Common.{get_or}
use Rattle.text.specs.Ledger.{each}
use Rattle.text.proofs.Printing.{Printed}
use Rattle.text.proofs.rows.print_rows.Given as goal

abbrev pub invariant-loop-i : goal.invariant-loop-i
invariant-loop-i g l = Printed g.T.Row.most (λ k. each k 0 (λ k. g.T.Row.line k (get_or l.rows k g.T.Row.blank))) l.initial.printer l.printer l.i
