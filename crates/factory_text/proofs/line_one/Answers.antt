use Rattle.std.proofs.Common.{rules, arith, ◌∙◌}
use Rattle.factory_text.proofs.Listing.{too_long, first_line, first_some}
use Rattle.factory_text.proofs.line_one.Goals as goal

pub returns-then-input-gt65536-clause-made : goal.returns-then-input-gt65536-clause-made
returns-then-input-gt65536-clause-made c = too_long _ (search rules)

pub returns-in_err-daily-clause-made : goal.returns-in_err-daily-clause-made
returns-in_err-daily-clause-made c =
    let h = first_line c.args.input.now (omega arith) _ (rw c.line_length.ensures.counted at c.in_err-daily.ensures) in
    search rules

pub returns-in_err-new-clause-made : goal.returns-in_err-new-clause-made
returns-in_err-new-clause-made c =
    let h = first_line c.args.input.now (omega arith) _ (rw c.line_length.ensures.counted at c.in_ok-daily.ensures) in
    search rules

pub returns-clause-made : goal.returns-clause-made
returns-clause-made c = c.in_ok-new.ensures ∙ first_line c.args.input.now (omega arith) _ (rw c.line_length.ensures.counted at c.in_ok-daily.ensures)

pub returns-clause-some : goal.returns-clause-some
returns-clause-some c = first_some c.args.input.now _ c.in_ok-daily.ensures
