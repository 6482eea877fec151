-- The lines to come are those of a rest of the text. Assumes nothing.
use Rattle.std.proofs.Common.{List, ℕ}
use Rattle.std.proofs.lemmas.Iterator.{YieldsList}
use Rattle.reader.specs.Lines.{lines}
use Rattle.running.proofs.Running.{Led}
use Rattle.running.proofs.run.Given as goal

abbrev pub invariant-loop-line : goal.invariant-loop-line
invariant-loop-line l = (rest : List ℕ) × YieldsList goal.iterator-loop-line.next_gives (λ x. x.now) l.line-iterator (lines rest) × Led l.text l.initial.month rest l.month
