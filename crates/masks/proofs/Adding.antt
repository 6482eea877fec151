-- The units of a mask's members, from those of the mask before it. By induction on the lists. Assumes nothing.
use Rattle.std.specs.Prelude.{◌≡◌, refl, ◌⊎◌, Bool, true, false, List, [], ◌∷◌, ◌++◌, ℕ, zero, suc, ◌+◌, ◌-◌, ◌*◌, ◌/◌, ◌%◌, ◌^◌, ◌≤◌, ◌<◌, eqb, length, take, get_or}
use Rattle.std.proofs.Common.{◌∙◌, inl, inr, arith, add-one, length-append, Fits, w16, w32}
use Rattle.std.proofs.Math.Nat.{pow-suc}
use Rattle.std.proofs.Math.ListN.{get_or-append}
use Rattle.std.proofs.Math.Seq.{get_or-append_seam}
use Rattle.std.proofs.lemmas.Bool.{cases_lt}
use Rattle.std.specs.Int.Count.{count_trailing_zeros}
use Rattle.book.specs.Counting.{list_if}
use Rattle.book.specs.Masks.{members, added}
use Rattle.masks.specs.Asked.{Before}
use Rattle.masks.proofs.Lowest.{by_parity, members_odd, members_even, trailing_odd, trailing_even, lowest_there}

-- so many units of sixteen bits each
added_few : (us : List ℕ) → ((k : ℕ) → Fits w16 (get_or us k 0)) → (m : ℕ) → added (members us m) ≤ 65535 * length us
unfolding members added
added_few [] f m = omega arith
added_few (u ∷ us) f m = let x : Fits w16 u = f 0 in go (eqb (m % 2) 1) (members us (m / 2)) (omega (arith, x)) (added_few us (λ k. f (suc k)) (m / 2))
  where
    go : (t : Bool) (l : List ℕ) → u ≤ 65535 → added l ≤ 65535 * length us → added (list_if t u l) ≤ 65535 * suc (length us)
    go true l p q = omega arith
    go false l p q = omega arith

-- the lowest account of a mask comes in, and those below it go out
turned : (us : List ℕ) (k m : ℕ) → length us ≤ k → 0 < m → m < 2 ^ length us
    → added (members us (m - 1)) + get_or us (count_trailing_zeros k m) 0 ≡ added (members us m) + added (take (count_trailing_zeros k m) us)
unfolding added
turned [] k m f p h = absurd (omega arith)
turned (x ∷ us) zero m f p h = absurd (omega arith)
turned (x ∷ us) (suc k) m f p h =
    by_parity m
    (λ e.
    let d : (m - 1) / 2 ≡ m / 2 - 1 = omega arith in
    rw (trailing_even k m e, members_even x us m e, members_odd x us (m - 1) (omega arith), d)
    (omega (arith, turned us k (m / 2) (omega arith) (omega arith) (omega (arith, pow-suc 2 (length us))))))
    (λ e.
    let d : (m - 1) / 2 ≡ m / 2 = omega arith in
    rw (trailing_odd k m e, members_odd x us m e, members_even x us (m - 1) (omega arith), d) (omega arith))

module _ (us : List ℕ) (m : ℕ) (few : length us ≤ 10) (some : 0 < m) (there : m < 2 ^ length us) where
  abbrev lowest : ℕ
  lowest = count_trailing_zeros 16 m

  pub place_there : lowest < length us
  place_there = lowest_there (length us) 16 m (omega arith) some there

  module _ {sum x : ℕ} (e : sum ≡ added (members us (m - 1))) (q : x ≡ get_or us lowest 0) where
    pub sum_fits : ((k : ℕ) → Fits w16 (get_or us k 0)) → Fits w32 (sum + x)
    sum_fits f = omega (arith, added_few us f (m - 1), f lowest, e, q)

    module _ {bs : List ℕ} (w : Before us (length us) bs) where
      pub sum_enough : get_or bs lowest 0 ≤ sum + x
      sum_enough = omega (arith, w.each lowest place_there, turned us 16 m (omega arith) some there, e, q)

      pub sum_next : sum + x - get_or bs lowest 0 ≡ added (members us m)
      sum_next = omega (arith, w.each lowest place_there, turned us 16 m (omega arith) some there, e, q)

-- ---- what is before each of a list

-- i of the units are gone through: their sum, and the sums before them
pub record SummedTo (us : List ℕ) (i sum : ℕ) (sums : List ℕ) : Type 0 where
  pub before : Before us i sums
  pub all : sum ≡ added (take i us)
  pub small : sum ≤ 65535 * i

added_take : (us : List ℕ) (i : ℕ) → i < length us → added (take (suc i) us) ≡ added (take i us) + get_or us i 0
unfolding added
added_take [] i h = absurd (omega arith)
added_take (u ∷ us) zero h = omega arith
added_take (u ∷ us) (suc i) h = omega (arith, added_take us i (omega arith))

pub none_summed : (us : List ℕ) {sums : List ℕ} → sums ≡ [] → SummedTo us 0 0 sums
unfolding added
none_summed us e = record { before = record { size = rw e refl; each = λ k h. absurd (omega arith) }; all = refl; small = omega arith }

pub one_summed : {us : List ℕ} {i sum : ℕ} {sums r : List ℕ} {x : ℕ} → SummedTo us i sum sums → i < length us → r ≡ sums ++ sum ∷ [] → x ≡ get_or us i 0 → Fits w16 (get_or us i 0) → SummedTo us (i + 1) (sum + x) r
one_summed {us} {i} {sum} {sums} {r} {x} s h q e f = record {
  before = record { size = rw q (simp length-append (omega (arith, s.before.size))); each = λ k l. rw q (go k l (cases_lt k i)) };
  all = rw add-one (omega (arith, added_take us i h, s.all, e));
  small = omega (arith, s.small, e);
}
  where
    go : (k : ℕ) → k < i + 1 → (k < i) ⊎ (i ≤ k) → get_or (sums ++ sum ∷ []) k 0 ≡ added (take k us)
    go k l (inl b) = get_or-append sums (sum ∷ []) 0 k (omega (arith, s.before.size)) ∙ s.before.each k b
    go k l (inr b) = let p : k ≡ length sums = omega (arith, s.before.size) in let z : length sums ≡ i = s.before.size in rw (p, get_or-append_seam sums sum [] 0, z) s.all
