-- A holder leaves: each behind it takes the place before its own, the last first. Assumes nothing.
use Rattle.std.specs.Prelude.{◌≡◌, refl, List, [], ◌∷◌, ◌++◌, ℕ, zero, suc, ◌+◌, ◌-◌, ◌≤◌, ◌<◌, length, get_or, set, insert, remove}
use Rattle.std.proofs.Common.{sym, ◌∙◌, ap, arith, length-append}
use Rattle.std.proofs.lemmas.List.{length-set}
use Rattle.std.proofs.lemmas.List.Edits.{insert_end}

-- the holders behind place k have moved: with the one that is carried put in there, the list is the one before the departure
pub record CarriedTo (before : List ℕ) (place k : ℕ) (l : List ℕ) (carried : ℕ) : Type 0 where
  pub from : place ≤ k
  pub within : k ≤ length l
  pub same : insert l k carried ≡ before

moved_up : (l : List ℕ) (k x d : ℕ) → k < length l → insert (set l k x) k (get_or l k d) ≡ insert l (suc k) x
moved_up [] k x d h = absurd (omega arith)
moved_up (y ∷ l) zero x d h = refl
moved_up (y ∷ l) (suc k) x d h = ap (◌∷◌ y) (moved_up l k x d (omega arith))

taken_out : (l : List ℕ) (k x : ℕ) → k ≤ length l → remove (insert l k x) k ≡ l
taken_out l zero x h = refl
taken_out [] (suc k) x h = absurd (omega arith)
taken_out (y ∷ l) (suc k) x h = ap (◌∷◌ y) (taken_out l k x (omega arith))

pub none_moved : (before l : List ℕ) (last place k : ℕ) → before ≡ l ++ last ∷ [] → place < length before → k ≡ length l → CarriedTo before place k l last
none_moved before l last place k e h q =
    let n : length before ≡ length l + 1 = rw e (simp length-append) in
    record { from = omega arith; within = omega arith; same = rw q (insert_end l last ∙ sym e) }

module _ {before : List ℕ} {place k : ℕ} {l : List ℕ} {carried : ℕ} (s : CarriedTo before place k l carried) where
  pub one_moved : place < k → (d : ℕ) → CarriedTo before place (k - 1) (set l (k - 1) carried) (get_or l (k - 1) d)
  one_moved h d =
      let e : k ≡ suc (k - 1) = omega arith in
      record { from = omega arith; within = omega (arith, s.within, length-set l (k - 1) carried); same = moved_up l (k - 1) carried d (omega (arith, s.within)) ∙ ap (λ j. insert l j carried) (sym e) ∙ s.same }

  pub all_moved : k ≤ place → l ≡ remove before place
  all_moved h =
      let e : k ≡ place = omega (arith, s.from) in
      rw (← e, ← s.same) (sym (taken_out l k carried s.within))
