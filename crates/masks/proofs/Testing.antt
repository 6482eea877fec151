-- The tests, by a loop over the masks: the balanced ones found so far, and then those to come, are the whole. Assumes nothing.
use Rattle.std.specs.Prelude.{◌≡◌, refl, Bool, true, false, List, [], ◌∷◌, ◌++◌, ℕ, suc, ◌+◌, ◌-◌, ◌^◌, ◌≤◌, ◌<◌, length}
use Rattle.std.proofs.Common.{sym, ◌∙◌, arith, eq-eqb, ne_eqb, append-nil, append_assoc, length-append}
use Rattle.std.proofs.Math.Pow.{pow_mono}
use Rattle.book.specs.Counting.{those}
use Rattle.book.specs.Masks.{members, added, is_balanced}
use Rattle.masks.proofs.Lowest.{members_none}

-- ten accounts have 1,023 masks
pub masks_few : (n : ℕ) → n ≤ 10 → 2 ^ n ≤ 1024
masks_few n h = pow_mono h

-- of n tests those below mask m are made, and p is what is tested
pub record FoundTo (p : ℕ → Bool) (n m : ℕ) (masks : List ℕ) : Type 0 where
  pub few : length masks < m
  pub same : masks ++ those (n + 1 - m) m p ≡ those n 1 p

pub none_found : (p : ℕ → Bool) (n : ℕ) {masks : List ℕ} → masks ≡ [] → FoundTo p n 1 masks
none_found p n e = let d : n + 1 - 1 ≡ n = omega arith in rw e (record { few = omega arith; same = rw d refl })

module _ {p : ℕ → Bool} {n m : ℕ} {masks : List ℕ} (s : FoundTo p n m masks) where
  pub all_found : n < m → masks ≡ those n 1 p
  unfolding those
  all_found h = let d : n + 1 - m ≡ 0 = omega arith in sym (append-nil masks) ∙ (rw d at s.same)

  module _ (h : m ≤ n) where
    abbrev left : n + 1 - m ≡ suc (n + 1 - (m + 1))
    left = omega arith

    pub one_found : {r : List ℕ} → p m ≡ true → r ≡ masks ++ m ∷ [] → FoundTo p n (m + 1) r
    unfolding those
    one_found g q = rw q (record { few = simp length-append (omega (arith, s.few)); same = rw append_assoc (rw (left, g) at s.same) })

    pub not_found : p m ≡ false → FoundTo p n (m + 1) masks
    unfolding those
    not_found g = record { few = omega (arith, s.few); same = rw (left, g) at s.same }

-- ---- the sums

-- long and short are the units of the mask before m
pub record SumsOf (ls ss : List ℕ) (m long short : ℕ) : Type 0 where
  pub longs : long ≡ added (members ls (m - 1))
  pub shorts : short ≡ added (members ss (m - 1))

pub none_before : (ls ss : List ℕ) → SumsOf ls ss 1 0 0
unfolding added
none_before ls ss = record { longs = rw (members_none ls) refl; shorts = rw (members_none ss) refl }

module _ (ls ss : List ℕ) (m : ℕ) {long short : ℕ} (l : long ≡ added (members ls m)) (s : short ≡ added (members ss m)) where
  pub even : long ≡ short → is_balanced ls ss m ≡ true
  even h = eq-eqb _ _ (rw (l, s) at h)

  pub uneven : (long ≡ short → ⊥) → is_balanced ls ss m ≡ false
  uneven h = ne_eqb _ _ (rw (l, s) at h)

  pub next_before : SumsOf ls ss (m + 1) long short
  next_before = let e : m + 1 - 1 ≡ m = omega arith in record { longs = rw e l; shorts = rw e s }
