-- With `prints_then` in `using` the search stops at its limits.
use Rattle.text.proofs.Printing.{prints_then}
use Rattle.factory_text.proofs.answers.U16RowShareForm.print.Goals as goal

pub returns-clause-printed : goal.returns-clause-printed
returns-clause-printed c = prints_then c.byte.ensures c.digits.ensures
