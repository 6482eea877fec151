-- With `prints_then` in `using` the search stops at its limits.
use Rattle.text.proofs.Printing.{prints_then}
use Rattle.columns.proofs.ReceiptRowPageForm.print.Goals as goal

pub returns-clause-printed : goal.returns-clause-printed
returns-clause-printed c = rw (← c.class_word.ensures.word, ← c.state_word.ensures.word) (prints_then (prints_then c.print_number.ensures.printed (prints_then c.print_number-2.ensures.printed (prints_then c.print_word.ensures.printed c.print_word-2.ensures.printed))) c.byte.ensures)
