-- A day's shares are determined by what is said of them. Assumes nothing.
use Rattle.std.specs.Prelude.{◌≡◌, List, [], ◌∷◌, ℕ, zero, suc, ◌≤◌, ◌<◌, ◌⊎◌, length, get_or, sum}
use Rattle.std.proofs.Common.{◌∙◌, arith}
use Rattle.std.proofs.lemmas.List.{get_or_default, same_lists}
use mathlib.Core.Logic.{inl, inr, ⊎_elim}
use Rattle.factory.specs.Types.{Factory}
use Rattle.factory.specs.Fairness.{Fair}
use Rattle.factory.proofs.Tests.{by_less}
use Rattle.factory.proofs.laws.Evening.{sum_cons}

-- of two lists the first has less at some place, or nowhere, and then its sum is greater wherever it has more
Less : List ℕ → List ℕ → Type 0
Less s t = (i : ℕ) × (i < length s) × (get_or s i 0 < get_or t i 0)

record More (s t : List ℕ) : Type 0 where
  sums : sum t ≤ sum s
  above : (k : ℕ) → get_or t k 0 < get_or s k 0 → sum t < sum s

more_above : (x y : ℕ) (s t : List ℕ) → y ≤ x → More s t → (k : ℕ) → get_or (y ∷ t) k 0 < get_or (x ∷ s) k 0 → sum (y ∷ t) < sum (x ∷ s)
more_above x y s t h m zero g = omega (arith, m.sums, sum_cons x s, sum_cons y t)
more_above x y s t h m (suc k) g = omega (arith, m.above k g, sum_cons x s, sum_cons y t)

compared : (s t : List ℕ) → length s ≡ length t → Less s t ⊎ More s t
unfolding Less
compared [] [] e = inr (record { sums = omega arith; above = λ k h. absurd (omega arith) })
compared [] (y ∷ t) e = absurd (omega arith)
compared (x ∷ s) [] e = absurd (omega arith)
compared (x ∷ s) (y ∷ t) e =
    by_less x y
    (λ h. inl (0, omega arith, h))
    (λ h.
    ⊎_elim
    (λ (l : Less s t). inl (suc l.0, omega (arith, l.1), l.2))
    (λ (m : More s t). inr (record { sums = omega (arith, m.sums, sum_cons x s, sum_cons y t); above = more_above x y s t h m }))
    (compared s t (omega arith)))

module _ (f : Factory) (s t : List ℕ) (a : Fair f s) (b : Fair f t) where
  no_more : (k : ℕ) → k < length f.holders → get_or s k 0 ≤ get_or t k 0
  unfolding Less
  no_more k h =
      by_less (get_or t k 0) (get_or s k 0)
      (λ g.
      ⊎_elim
      (λ (l : Less s t).
      let i = l.0 in
      let n : i < length f.holders = omega (arith, a.each, l.1) in
      let c = l.2 in
      let x = a.even k i h n (omega (arith, b.most i n)) in
      let y = b.even i k n h (omega (arith, a.most k h)) in
      by_less k i
      (λ o. absurd (omega (arith, b.first k i (omega arith) n (omega (arith, a.most k h)))))
      (λ o. absurd (omega (arith, a.first i k o h (omega (arith, b.most i n))))))
      (λ (m : More s t). absurd (omega (arith, m.above k g, a.all, b.all)))
      (compared s t (omega (arith, a.each, b.each))))
      (λ g. g)

pub only : (f : Factory) (s t : List ℕ) → Fair f s → Fair f t → s ≡ t
only f s t a b =
    let e : length s ≡ length t = omega (arith, a.each, b.each) in
    same_lists s t e (λ k d h.
    let n : k < length f.holders = omega (arith, a.each) in
    let q : get_or s k 0 ≡ get_or t k 0 = omega (arith, no_more f s t a b k n, no_more f t s b a k n) in
    get_or_default s k d 0 h ∙ q ∙ get_or_default t k 0 d (omega arith))
