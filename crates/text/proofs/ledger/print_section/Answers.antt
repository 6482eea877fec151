-- With `prints_then` in `using` the search stops at its limits.
use Rattle.text.proofs.Printing.{prints_then}
use Rattle.text.proofs.ledger.print_section.Goals as goal

pub returns-clause-printed : goal.returns-clause-printed
returns-clause-printed g c = prints_then c.heading.ensures.printed c.print_rows.ensures.printed
