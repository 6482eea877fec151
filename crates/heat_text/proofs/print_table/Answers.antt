-- With these lemmas in `using` the search finds no proof. Assumes nothing.
use Rattle.heat_text.proofs.Lines.{table_printed, table_next}
use Rattle.heat_text.proofs.print_table.Goals as goal

pub returns-clause-printed : goal.returns-clause-printed
returns-clause-printed c = table_printed c.numerators.ensures c.print_rows.ensures.printed

pub returns-clause-wide : goal.returns-clause-wide
returns-clause-wide c = table_next (table_printed c.numerators.ensures c.print_rows.ensures.printed)
