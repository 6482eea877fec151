use Rattle.text.proofs.Printing.{prints_then}
use Rattle.text.proofs.print.Printer.next_small.Goals as goal

pub returns-clause-printed : goal.returns-clause-printed
returns-clause-printed c = prints_then c.byte.ensures c.digits.ensures
