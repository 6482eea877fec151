use Rattle.std.proofs.Common.{rules, arith, ◌∙◌}
use Rattle.session.proofs.Starting.{too_long, first_line}
use Rattle.session.proofs.line_one.Goals as goal

pub returns-then-input-gt65536-clause-opened : goal.returns-then-input-gt65536-clause-opened
returns-then-input-gt65536-clause-opened c = too_long _ _ (search rules)

pub returns-in_err-terms-clause-opened : goal.returns-in_err-terms-clause-opened
returns-in_err-terms-clause-opened c =
    let h = first_line c.args.heats.now c.args.input.now (omega arith) _ (rw c.line_length.ensures.counted at c.in_err-terms.ensures) in
    search rules

pub returns-clause-opened : goal.returns-clause-opened
returns-clause-opened c = c.opening.ensures ∙ first_line c.args.heats.now c.args.input.now (omega arith) _ (rw c.line_length.ensures.counted at c.in_ok-terms.ensures)
