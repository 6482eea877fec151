-- A receipt table, frozen turn by turn. Assumes nothing.
use Rattle.std.specs.Prelude.{◌≡◌, refl, Bool, true, false, List, ℕ, zero, suc, eqb, ◌+◌, ◌-◌, ◌≤◌, ◌<◌, ◌++◌, length, get_or, set, take, drop}
use Rattle.std.proofs.Common.{sym, ap, ◌∙◌, arith, eq-eqb}
use Rattle.std.proofs.lemmas.List.{length-set, get_or_append_left, set-append_left, take-append-drop}
use Rattle.coal.specs.Choice.{pick}
use Rattle.book.specs.declared.receipts.Receipt.{Receipt}
use Rattle.book.specs.Counting.{iter}
use Rattle.book.specs.Rows.{blank_receipt, is_free_of, frozen_for}
use Rattle.book.specs.Tables.{free_at}
use Rattle.book.specs.Pairing.{Freezing, freeze_turn}

module _ (c : Bool) (seller j : ℕ) where
  -- once nothing is left to freeze, no turn changes anything
  pub nothing_left : (t : Freezing) (n i : ℕ) → t.left ≡ 0 → iter n i (freeze_turn c seller j) t ≡ t
  unfolding iter freeze_turn
  nothing_left t zero i h = refl
  nothing_left t (suc n) i h = rw (eq-eqb _ _ h) (nothing_left t n (i + 1) h)

  -- ---- the first rows of a table, frozen apart from the rest

  -- a table with more rows
  abbrev with_rest : List Receipt → Freezing → Freezing
  with_rest rest t = record { receipts = t.receipts ++ rest; left = t.left }

  same_length : (t : Freezing) (i : ℕ) → length (freeze_turn c seller j i t).receipts ≡ length t.receipts
  unfolding freeze_turn
  same_length t i = go (eqb t.left 0) (free_at t.receipts c seller i)
    where
      next : Freezing
      next = record { receipts = set t.receipts i (frozen_for j (get_or t.receipts i blank_receipt)); left = t.left - 1 }

      go : (p q : Bool) → length (pick p t (pick q next t)).receipts ≡ length t.receipts
      go true q = refl
      go false true = length-set t.receipts i _
      go false false = refl

  one_apart : (rest : List Receipt) (t : Freezing) (i : ℕ) → i < length t.receipts → freeze_turn c seller j i (with_rest rest t) ≡ with_rest rest (freeze_turn c seller j i t)
  unfolding freeze_turn free_at
  one_apart rest t i h = rw (get_or_append_left t.receipts rest blank_receipt i h, set-append_left t.receipts rest i (frozen_for j (get_or t.receipts i blank_receipt)) h) (go (eqb t.left 0) (is_free_of c seller (get_or t.receipts i blank_receipt)))
    where
      next : Freezing
      next = record { receipts = set t.receipts i (frozen_for j (get_or t.receipts i blank_receipt)); left = t.left - 1 }

      go : (p q : Bool) → pick p (with_rest rest t) (pick q (with_rest rest next) (with_rest rest t)) ≡ with_rest rest (pick p t (pick q next t))
      go true q = refl
      go false true = refl
      go false false = refl

  all_apart : (rest : List Receipt) (n i : ℕ) (t : Freezing) → i + n ≤ length t.receipts → iter n i (freeze_turn c seller j) (with_rest rest t) ≡ with_rest rest (iter n i (freeze_turn c seller j) t)
  unfolding iter
  all_apart rest zero i t h = refl
  all_apart rest (suc n) i t h =
      rw (one_apart rest t i (omega arith)) (all_apart rest n (i + 1) (freeze_turn c seller j i t) (omega (arith, same_length t i)))

  -- the first n rows frozen, and the rest as it was
  pub first_frozen : (l r : List Receipt) (n u : ℕ) → length (take n l) ≡ n → r ≡ (iter (length (take n l)) 0 (freeze_turn c seller j) (record { receipts = take n l; left = u })).receipts
      → r ++ drop n l ≡ (iter n 0 (freeze_turn c seller j) (record { receipts = l; left = u })).receipts
  first_frozen l r n u h q =
      let e = all_apart (drop n l) n 0 (record { receipts = take n l; left = u }) (omega arith) in
      rw (q, h) (sym (ap (λ (t : Freezing). t.receipts) e)) ∙ ap (λ (k : List Receipt). (iter n 0 (freeze_turn c seller j) (record { receipts = k; left = u })).receipts) (take-append-drop n l)
