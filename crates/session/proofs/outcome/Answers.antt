use Rattle.std.proofs.Common.{rules}
use Rattle.session.proofs.Starting.{accepted_outcome, refused_outcome}
use Rattle.session.proofs.outcome.Goals as goal

pub returns-in_err-month : goal.returns-in_err-month
returns-in_err-month c = let h = refused_outcome _ _ _ c.in_err-month.ensures.opened in search rules

pub returns : goal.returns
returns c = accepted_outcome _ _ c.in_ok-month.ensures.opened _ c.later_lines.ensures.lines c.run.ensures
