-- With `prints_then` in `using` the search stops at its limits.
use Rattle.text.proofs.Printing.{prints_then}
use Rattle.text.proofs.ledger.MatchRowLedgerForm.print.Goals as goal

pub returns-clause-printed : goal.returns-clause-printed
returns-clause-printed c = rw (← c.stage_number.ensures) (prints_then c.number.ensures.printed c.rest.ensures.printed)
