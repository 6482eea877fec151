-- The free receipts of an owner, counted by number and by the list. Assumes nothing.
use Rattle.std.specs.Prelude.{◌≡◌, refl, Bool, ℕ, length, filter, take}
use Rattle.std.proofs.Common.{sym, ◌∙◌, arith}
use Rattle.std.proofs.lemmas.List.{length-take}
use Rattle.std.proofs.lemmas.List.Sums.{length-filter}
use Rattle.book.specs.declared.tables.Book.{Book}
use Rattle.book.specs.Rows.{blank_receipt, is_free_of}
use Rattle.book.specs.Tables.{free_at, free_receipts}
use Rattle.book.proofs.laws.Counting.{tally_same}
use Rattle.reached.specs.Loops.{rows_counted}

-- those of the class meant
pub free_rows : (b : Book) (c : Bool) (k : ℕ) → length (take b.receipt_count b.receipts) ≡ b.receipt_count → length (filter (is_free_of c k) (take b.receipt_count b.receipts)) ≡ free_receipts b c k
unfolding free_receipts free_at
free_rows b c k h =
    let n = b.receipt_count in
    length-filter (is_free_of c k) (take n b.receipts)
    ∙ sym (rows_counted (is_free_of c k) b.receipts blank_receipt n (omega (arith, length-take n b.receipts)))
    ∙ tally_same _ _ n 0 (λ i l u. refl)
