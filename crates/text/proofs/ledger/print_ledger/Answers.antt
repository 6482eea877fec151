-- The sections one after the other, each by its rows in use. Assumes nothing.
use Rattle.book.specs.Rows.{blank_account, blank_receipt, blank_match}
use Rattle.text.specs.Text.{bytes}
use Rattle.text.specs.Ledger.{heading, account_line, receipt_line, match_line, account_row, receipt_row, match_row, ledger}
use Rattle.text.proofs.Printing.{prints_then, section_taken}
use Rattle.text.proofs.ledger.print_ledger.Goals as goal

pub returns-clause-printed : goal.returns-clause-printed
unfolding ledger account_row receipt_row match_row
returns-clause-printed c =
    let x = section_taken (heading (bytes "accounts")) account_line blank_account _ _ _ c.in_use.ensures.rows c.in_use.ensures.many c.print_section.ensures.printed in
    let y = section_taken (heading (bytes "receipts")) receipt_line blank_receipt _ _ _ c.in_use-2.ensures.rows c.in_use-2.ensures.many c.print_section-2.ensures.printed in
    let z = section_taken (heading (bytes "matches")) match_line blank_match _ _ _ c.in_use-3.ensures.rows c.in_use-3.ensures.many c.print_section-3.ensures.printed in
    prints_then x (prints_then y (prints_then z c.heading.ensures.printed))
