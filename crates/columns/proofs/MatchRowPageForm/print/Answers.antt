-- With `prints_then` in `using` the search stops at its limits.
use Rattle.text.proofs.Printing.{prints_then}
use Rattle.columns.proofs.MatchRowPageForm.print.Goals as goal

pub returns-clause-printed : goal.returns-clause-printed
returns-clause-printed c =
    let parties = prints_then c.print_number.ensures.printed (prints_then c.print_number-2.ensures.printed c.print_number-3.ensures.printed) in
    let terms = prints_then c.print_number-4.ensures.printed (prints_then c.print_number-5.ensures.printed (prints_then c.print_number-6.ensures.printed c.print_number-7.ensures.printed)) in
    rw (← c.stage_number.ensures) (prints_then (prints_then parties terms) c.byte.ensures)
