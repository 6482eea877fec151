-- The sections one after the other, each by its rows in use. Assumes nothing.
use Rattle.book.specs.Rows.{blank_account, blank_receipt, blank_match}
use Rattle.text.specs.Text.{bytes}
use Rattle.text.specs.Page.{line, account_columns, receipt_columns, match_columns, count_columns, account_entry, receipt_entry, match_entry, page}
use Rattle.text.proofs.Printing.{prints_then, section_taken}
use Rattle.columns.proofs.print_page.Goals as goal

pub returns : goal.returns
unfolding page account_entry receipt_entry match_entry
returns c =
    let x = section_taken (λ n. line (count_columns (bytes "accounts") n)) (λ k a. line (account_columns k a)) blank_account _ _ _ c.in_use.ensures.rows c.in_use.ensures.many c.print_section.ensures.printed in
    let y = section_taken (λ n. line (count_columns (bytes "receipts") n)) (λ i r. line (receipt_columns i r)) blank_receipt _ _ _ c.in_use-2.ensures.rows c.in_use-2.ensures.many c.print_section-2.ensures.printed in
    let z = section_taken (λ n. line (count_columns (bytes "matches") n)) (λ j m. line (match_columns j m)) blank_match _ _ _ c.in_use-3.ensures.rows c.in_use-3.ensures.many c.print_section-3.ensures.printed in
    rw (← c.month.view_is) (prints_then x (prints_then y (prints_then z c.print_count.ensures.printed)))
