-- The lines to come are those of a rest of the text. Assumes nothing.
use Rattle.std.proofs.Common.{List, ℕ}
use Rattle.std.proofs.lemmas.Iterator.{YieldsList}
use Rattle.reader.specs.Lines.{lines}
use Rattle.factory_text.proofs.Listing.{Printed}
use Rattle.factory_text.proofs.print_replies.Given as goal

abbrev pub invariant-loop-line : goal.invariant-loop-line
invariant-loop-line l = (rest : List ℕ) × YieldsList goal.iterator-loop-line.next_gives (λ x. x.now) l.line-iterator (lines rest) × Printed l.text l.initial.factory l.initial.printer rest l.factory l.printer
