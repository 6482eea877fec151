-- Those who wait after so many whole rounds, counted holder by holder, and the least that one of them had. Assumes nothing.
use Rattle.std.specs.Prelude.{◌≡◌, refl, List, ℕ, ◌+◌, ◌-◌, ◌*◌, ◌/◌, ◌≤◌, ◌<◌, ◌⊎◌, min, drop, length, get_or}
use Rattle.std.proofs.Common.{ap, arith}
use Rattle.std.proofs.lemmas.List.{drop_more, drop_all}
use Rattle.std.proofs.Math.Nat.{mul-le-mul_right, div-mul-le_self}
use mathlib.Core.Logic.{inl, inr, ⊎_elim}
use Rattle.factory.specs.Rounds.{above, taken, OneHad, Waits, AreWhole}
use Rattle.factory.proofs.Tests.{by_eq, by_less}
use Rattle.factory.proofs.laws.Levels.{none_above, above_more, above_same, none_taken, taken_by}

-- the first i holders are counted
pub record CountedTo (r : ℕ) (l : List ℕ) (i count least : ℕ) : Type 0 where
  pub rest : count + above r (drop i l) ≡ above r l
  pub few : count ≤ i
  pub within : i ≤ length l
  pub had : (k : ℕ) → k < i → r < get_or l k 0 → least ≤ get_or l k 0
  pub one : ((count ≡ 0) × (65_535 ≤ least)) ⊎ OneHad r i l least

pub none_counted : (r : ℕ) (l : List ℕ) → CountedTo r l 0 0 65_535
none_counted r l = record { rest = omega arith; few = omega arith; within = omega arith; had = λ k h e. absurd (omega arith); one = inl (refl, omega arith) }

module _ {r : ℕ} {l : List ℕ} {i count least : ℕ} (c : CountedTo r l i count least) where
  module _ (h : i < length l) where
    pub one_counted : r < get_or l i 0 → get_or l i 0 ≤ 65_535 → CountedTo r l (i + 1) (count + 1) (min least (get_or l i 0))
    one_counted e b = record {
      rest = omega (arith, c.rest, ap (above r) (drop_more l i 0 h), above_more r (get_or l i 0) (drop (i + 1) l) e);
      few = omega (arith, c.few);
      within = omega arith;
      had = λ k g f. by_eq k i (λ q. rw q (omega arith)) (λ q. omega (arith, c.had k (omega arith) f));
      one = inr
          (⊎_elim
          (λ (q : (count ≡ 0) × (65_535 ≤ least)). (i, omega arith, e, omega (arith, q.1)))
          (λ (q : OneHad r i l least).
          by_less (get_or l i 0) least
          (λ g. (i, omega arith, e, omega arith))
          (λ g. (q.0, omega (arith, q.1), q.2, omega (arith, q.3))))
          c.one);
    }

    pub passed_over : get_or l i 0 ≤ r → CountedTo r l (i + 1) count least
    passed_over e = record {
      rest = omega (arith, c.rest, ap (above r) (drop_more l i 0 h), above_same r (get_or l i 0) (drop (i + 1) l) e);
      few = omega (arith, c.few);
      within = omega arith;
      had = λ k g f. by_eq k i (λ q. absurd (omega (arith, ap (λ (n : ℕ). get_or l n 0) q))) (λ q. c.had k (omega arith) f);
      one = ⊎_elim (λ (q : (count ≡ 0) × (65_535 ≤ least)). inl q) (λ (q : OneHad r i l least). inr (q.0, omega (arith, q.1), q.2, q.3)) c.one;
    }

  pub all_counted : length l ≤ i → Waits r l count least
  all_counted h = record {
    counted = omega (arith, c.rest, ap (above r) (drop_all i l h), none_above r);
    had = λ k g e. c.had k (omega arith) e;
    one = ⊎_elim (λ (q : (count ≡ 0) × (65_535 ≤ least)). inl q.0) (λ (q : OneHad r i l least). inr (q.0, omega (arith, q.1, c.within), q.2, q.3)) c.one;
  }

-- ---- rounds that are whole, as far as they are found

pub none_whole : (l : List ℕ) (daily : ℕ) → taken 0 l + daily ≡ daily
none_whole l daily = omega (arith, none_taken l)

module _ (r : ℕ) (l : List ℕ) (count least rest daily : ℕ) (e : taken r l + rest ≡ daily) (w : Waits r l count least) where
  above_least : (count ≡ 0 → ⊥) → r < least
  above_least n = ⊎_elim (λ (z : count ≡ 0). absurd (n z)) (λ (g : OneHad r (length l) l least). omega (arith, g.2, g.3)) w.one

  -- so many more at once
  pub more_whole : (s : ℕ) → (count ≡ 0 → ⊥) → s ≡ min (least - r) (rest / count) → taken (r + s) l + (rest - s * count) ≡ daily
  more_whole s n q =
      let a = above_least n in
      let b : s * count ≤ rest / count * count = mul-le-mul_right count (omega arith) in
      let d : rest / count * count ≤ rest = div-mul-le_self rest count in
      let t : taken (r + s) l ≡ taken r l + s * count = rw w.counted (taken_by r s l (λ k h g. omega (arith, w.had k h g))) in
      omega arith

  pub all_whole : (rest < count) ⊎ (count ≡ 0) → AreWhole daily l r rest
  all_whole h = record { sum = e; last = rw w.counted at h }
