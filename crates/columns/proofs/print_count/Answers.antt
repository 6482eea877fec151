-- With `prints_then` in `using` the search stops at its limits.
use Rattle.fields.proofs.Aligning.{padded_prints}
use Rattle.text.proofs.Printing.{prints_then}
use Rattle.columns.proofs.print_count.Goals as goal

pub returns-clause-printed : goal.returns-clause-printed
returns-clause-printed c = prints_then (padded_prints 40 _ (prints_then c.bytes.ensures c.next.ensures.printed) c.print_spaces.ensures.printed) c.byte.ensures
