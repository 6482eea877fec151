-- The receipts frozen for a match, counted by number and by the list. Assumes nothing.
use Rattle.std.specs.Prelude.{◌≡◌, refl, Bool, true, false, List, [], ◌∷◌, ℕ, ◌≤◌, ltb, length, filter, take}
use Rattle.std.proofs.Common.{sym, ap, ◌∙◌, arith, lt-ltb}
use Rattle.std.specs.List.{list_any}
use Rattle.std.proofs.lemmas.List.{length-take}
use Rattle.std.proofs.lemmas.List.Sums.{length-filter}
use Rattle.book.specs.declared.receipts.Receipt.{Receipt}
use Rattle.book.specs.declared.tables.Book.{Book}
use Rattle.book.specs.Rows.{blank_receipt, is_frozen_for, is_ordinary_for}
use Rattle.book.specs.Tables.{frozen_at, frozen_receipts, ordinary_at, ordinary_receipts}
use Rattle.reached.specs.Loops.{rows_counted}

-- whether one passes a test, and how many do
any_counted : {A : Type 0} (p : A → Bool) (l : List A) → list_any p l ≡ ltb 0 (length (filter p l))
any_counted p [] = refl
any_counted p (x ∷ l) = go (any_counted p l) (p x) refl
  where
    go : list_any p l ≡ ltb 0 (length (filter p l)) → (t : Bool) → p x ≡ t → list_any p (x ∷ l) ≡ ltb 0 (length (filter p (x ∷ l)))
    go ih true e = rw e (sym (lt-ltb _ _ (omega arith)))
    go ih false e = rw e ih

module _ (b : Book) (j : ℕ) (l : List Receipt) (e : l ≡ take b.receipt_count b.receipts) (h : length l ≡ b.receipt_count) where
  in_table : b.receipt_count ≤ length b.receipts
  in_table = omega (arith, ap length e, length-take b.receipt_count b.receipts)

  pub frozen_rows : length (filter (λ r. is_frozen_for j r.state) l) ≡ frozen_receipts b j
  unfolding frozen_receipts frozen_at
  frozen_rows = length-filter _ l ∙ rw e (sym (rows_counted (λ r. is_frozen_for j r.state) b.receipts blank_receipt b.receipt_count in_table))

  pub ordinary_rows : list_any (is_ordinary_for j) l ≡ ltb 0 (ordinary_receipts b j)
  unfolding ordinary_receipts ordinary_at
  ordinary_rows =
      any_counted _ l ∙ ap (ltb 0) (length-filter _ l ∙ rw e (sym (rows_counted (is_ordinary_for j) b.receipts blank_receipt b.receipt_count in_table)))
