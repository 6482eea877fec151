-- Loops over numbers: what is left, done to the present state, is the whole, done to the first. Assumes nothing.
use Rattle.std.specs.Prelude.{◌≡◌, refl, Bool, true, false, List, [], ◌∷◌, ◌++◌, length, take, drop, map, get_or, set, ℕ, zero, suc, ◌+◌, ◌-◌, ◌≤◌, ◌<◌}
use Rattle.std.proofs.Common.{arith, ap, ◌∙◌, zero-add, add-zero, add-one, append-nil}
use Rattle.std.specs.List.{count_by}
use Rattle.std.proofs.lemmas.List.Sums.{count_by_more_yes, count_by_more_no}
use Rattle.std.proofs.Math.Seq.{take-length, drop-length}
use Rattle.std.proofs.Math.Nat.{sub-zero}
use Rattle.book.specs.Counting.{iter, tally, one_if}
use Rattle.book.proofs.laws.Counting.{one_most, tally_zero, tally_last}

pub more_left : (n i : ℕ) → i < n → n - i ≡ suc (n - (i + 1))
more_left n i h = omega arith

pub none_left : (n i : ℕ) → n ≤ i → n - i ≡ 0
none_left n i h = omega arith

-- of n turns that come to z those below i are done, and s is the present state
pub record Turned {S : Type 0} (f : ℕ → S → S) (n : ℕ) (z : S) (i : ℕ) (s : S) : Type 0 where
  pub within : i ≤ n
  pub same : iter (n - i) i f s ≡ z

pub none_turned : {S : Type 0} (f : ℕ → S → S) (n : ℕ) (s : S) → Turned f n (iter n 0 f s) 0 s
none_turned f n s = record { within = omega arith; same = rw sub-zero }

module _ {S : Type 0} {f : ℕ → S → S} {n i : ℕ} {s z : S} (t : Turned f n z i s) where
  pub one_turned : {s' : S} → i < n → s' ≡ f i s → Turned f n z (i + 1) s'
  unfolding iter
  one_turned h e = record { within = omega arith; same = rw e (rw (more_left n i h) at t.same) }

  pub all_turned : n ≤ i → s ≡ z
  unfolding iter
  all_turned h = rw (none_left n i h) at t.same

-- a turn that changes the row at its place
abbrev pub row_turn : {A : Type 0} → (A → A) → A → ℕ → List A → List A
row_turn g d i l = set l i (g (get_or l i d))

module _ {A : Type 0} (g : A → A) (d : A) where
  no_rows : (n i : ℕ) → iter n i (row_turn g d) [] ≡ []
  unfolding iter
  no_rows zero i = refl
  no_rows (suc n) i = no_rows n (i + 1)

  later_rows : (n i j : ℕ) (x : A) (l : List A) → j ≡ suc i → iter n j (row_turn g d) (x ∷ l) ≡ x ∷ iter n i (row_turn g d) l
  unfolding iter
  later_rows zero i j x l e = refl
  later_rows (suc n) i j x l e = rw e (later_rows n (i + 1) (suc i + 1) x (set l i (g (get_or l i d))) (omega arith))

  -- turns at the places of the first n rows of a table change each of those rows
  pub rows_turned : (n : ℕ) (l : List A) → iter n 0 (row_turn g d) l ≡ map g (take n l) ++ drop n l
  unfolding iter
  rows_turned zero l = refl
  rows_turned (suc n) [] = no_rows n 1
  rows_turned (suc n) (x ∷ l) = later_rows n 0 1 (g x) l refl ∙ ap (λ (k : List A). g x ∷ k) (rows_turned n l)

  -- the first rows, turned as a table of their own, with the rest behind them
  pub table_turned : (n : ℕ) (l s : List A) → s ≡ iter (length (take n l)) 0 (row_turn g d) (take n l) → s ++ drop n l ≡ iter n 0 (row_turn g d) l
  table_turned n l s e = rw e (rw (rows_turned (length (take n l)) (take n l), rows_turned n l, take-length, drop-length, append-nil) refl)

-- of n numbers those below i are counted: the count c, with what is left to count, comes to z
pub record Counted (p : ℕ → Bool) (n z i c : ℕ) : Type 0 where
  pub within : i ≤ n
  pub few : c ≤ i
  pub same : c + tally (n - i) i p ≡ z

pub none_counted : (p : ℕ → Bool) (n : ℕ) → Counted p n (tally n 0 p) 0 0
none_counted p n = record { within = omega arith; few = omega arith; same = rw (sub-zero, zero-add) }

module _ {p : ℕ → Bool} {n z i c : ℕ} (s : Counted p n z i c) where
  pub one_counted : {t : Bool} {d : ℕ} → i < n → t ≡ p i → d ≡ c + one_if t → Counted p n z (i + 1) d
  unfolding tally
  one_counted {t} h e k =
      let w : c + (one_if (p i) + tally (n - (i + 1)) (i + 1) p) ≡ z = rw (more_left n i h) at s.same in
      record { within = omega arith; few = omega (arith, one_most t, s.few); same = rw (k, e) (omega arith) }

  pub all_counted : n ≤ i → c ≡ z
  unfolding tally
  all_counted h = omega (arith, rw (none_left n i h) at s.same)

-- a count of the first n rows of a table, by number and by the list
pub rows_counted : {A : Type 0} (p : A → Bool) (l : List A) (d : A) (n : ℕ) → n ≤ length l → tally n 0 (λ i. p (get_or l i d)) ≡ count_by p (take n l)
rows_counted p l d zero h = tally_zero _
rows_counted p l d (suc n) h = rw (← add-one n) (go (rows_counted p l d n (omega arith)) (p (get_or l n d)) refl)
  where
    go : tally n 0 (λ i. p (get_or l i d)) ≡ count_by p (take n l) → (t : Bool) → p (get_or l n d) ≡ t → tally (n + 1) 0 (λ i. p (get_or l i d)) ≡ count_by p (take (n + 1) l)
    go ih true e = rw (tally_last (λ i. p (get_or l i d)) n, count_by_more_yes p l n d (omega arith) e, ih, e)
    go ih false e = rw (tally_last (λ i. p (get_or l i d)) n, count_by_more_no p l n d (omega arith) e, ih, e) (add-zero _)
