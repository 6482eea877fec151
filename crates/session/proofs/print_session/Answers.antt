use Rattle.session.proofs.Starting.{accepted_prints, refused_prints}
use Rattle.session.proofs.print_session.Goals as goal

pub returns-in-Ok : goal.returns-in-Ok
returns-in-Ok c =
    accepted_prints _ _ c.in-Ok.ensures.opened _ c.later_lines.ensures.lines c.print_run.ensures.book c.answer.ensures.printed c.print_run.ensures.answers (rw c.month.view_is at c.print_ledger.ensures.printed)

pub returns-in-Err : goal.returns-in-Err
returns-in-Err c = refused_prints _ _ _ c.in-Err.ensures.opened c.answer-in-Err.ensures.printed
