-- What the two roundings are, and which rule of the coal price and weight has which: "half up" (document 01) and "an exact half to the even fen" (document 02, Job 3). Assumes nothing.
use Rattle.std.specs.Prelude.{◌≡◌, refl, Bool, true, false, ℕ, zero, suc, ◌+◌, ◌-◌, ◌*◌, ◌/◌, ◌%◌, ◌≤◌, ◌<◌, eqb, leb, List}
use Rattle.std.proofs.Common.{ap, div-add-mod', div-mul-le_self, le_antisymm, lt_of_mul-lt-mul_right, mod-lt, mul-le-mul_right, mul_left_comm, arith}
use Rattle.std.proofs.Math.Nat.{eq_of_mul-eq-mul_right, lt-div-mul-add}
use borrow.Author.Tests.{eqb-true, eqb-false, le-ltb, le-leb, leb-true, leb-false, lt-leb, lt-ltb}
use Rattle.heats.specs.HeatTables.{entry_of}
use Rattle.heats.specs.Numerators.{denominator}
use Rattle.coal.specs.Choice.{pick}
use Rattle.coal.specs.Coal.{half_up, half_even, percent_half_up, price_by_band, price_by_heat, by_moisture, amount}

-- "half up rounds to nearest, an exact half upwards": r times d is at most half of d above n, and less than half below
pub record NearestUp (n d r : ℕ) : Type 0 where
  pub above : 2 * (r * d) ≤ 2 * n + d
  pub below : 2 * n < 2 * (r * d) + d

-- to nearest, "an exact half to the even fen": r times d is never more than half of d away from n, and r is even where it is exactly half away
pub record NearestEven (n d r : ℕ) : Type 0 where
  pub above : 2 * (r * d) ≤ 2 * n + d
  pub below : 2 * n ≤ 2 * (r * d) + d
  pub even_above : 2 * (r * d) ≡ 2 * n + d → r % 2 ≡ 0
  pub even_below : 2 * n ≡ 2 * (r * d) + d → r % 2 ≡ 0

-- ---- half_up

pub nearest_up : (n d : ℕ) → 0 < d → NearestUp n d (half_up n d)
unfolding half_up
nearest_up n d p = near ((2 * n + d) / (2 * d)) (div-mul-le_self (2 * n + d) (2 * d)) (lt-div-mul-add (omega arith))
  where
    near : (r : ℕ) → r * (2 * d) ≤ 2 * n + d → 2 * n + d < r * (2 * d) + 2 * d → NearestUp n d r
    near r l u = record { above = omega (arith, mul_left_comm r 2 d); below = omega (arith, mul_left_comm r 2 d) }

-- "All other roundings keep their rule.": the percentages of steps 4 and 5, the moisture, amount B
pub percent_up : (x n : ℕ) → NearestUp (n * x) 100 (percent_half_up x n)
unfolding percent_half_up
percent_up x n = nearest_up _ _ (omega arith)

pub moisture_up : (m w : ℕ) → 2_500 < m → NearestUp (w * (1_000 - (m - 2_500 + 5) / 10)) 1_000 (by_moisture m w)
unfolding by_moisture
moisture_up m w h = rw (lt-ltb 2_500 m h) (nearest_up _ _ (omega arith))

pub amount_up : (x w : ℕ) → NearestUp (x * w) 1_000 (amount x w)
unfolding amount
amount_up x w = nearest_up _ _ (omega arith)

-- ---- half-even

-- n is q times d with the rest m
module _ (n d q m : ℕ) (p : 0 < d) (divided : q * d + m ≡ n) where
  -- an exact half: q or the next, as q is even or odd
  at_half : (k : ℕ) → q % 2 ≡ k → 2 * m ≡ d → NearestEven n d (q + k)
  at_half zero e h = record { above = omega arith; below = omega arith; even_above = λ u. omega arith; even_below = λ u. omega arith }
  at_half (suc zero) e h = record { above = omega arith; below = omega arith; even_above = λ u. omega arith; even_below = λ u. omega arith }
  at_half (suc (suc k)) e h = absurd (omega arith)

  -- what is exactly half above n is the next of q, at an exact half
  half_above : (r : ℕ) → m < d → 2 * (r * d) ≡ 2 * n + d → 2 * m ≡ d
  half_above r b e =
      let x : q < r = lt_of_mul-lt-mul_right d (omega arith) in
      let y : r < q + 2 = lt_of_mul-lt-mul_right d (omega arith) in
      let z : r * d ≡ (q + 1) * d = ap (λ i. i * d) (omega arith) in
      omega arith

module _ (n d : ℕ) (p : 0 < d) where
  nearest : (t : Bool) → eqb (2 * (n % d)) d ≡ t → NearestEven n d (pick t (n / d + n / d % 2) (half_up n d))
  nearest true e = at_half n d (n / d) (n % d) p (div-add-mod' n d) (n / d % 2) refl (eqb-true _ _ e)
  nearest false e =
      let u : NearestUp n d (half_up n d) = nearest_up n d p in
      record {
        above = u.above;
        below = omega arith;
        even_above = λ h. absurd (eqb-false _ _ e (half_above n d (n / d) (n % d) p (div-add-mod' n d) _ (mod-lt n p) h));
        even_below = λ h. omega arith;
      }

  pub nearest_even : NearestEven n d (half_even n d)
  unfolding half_even
  nearest_even = nearest (eqb (2 * (n % d)) d) refl

  -- of two such numbers the one is at most the other: were it the next, both would be even
  at_most : (r s : ℕ) → NearestEven n d r → NearestEven n d s → (t : Bool) → leb r s ≡ t → r ≤ s
  at_most r s f g true e = leb-true r s e
  at_most r s f g false e =
      let x : suc s * d ≤ r * d = mul-le-mul_right d (leb-false r s e) in
      let y : r ≡ s + 1 = eq_of_mul-eq-mul_right d p r (s + 1) (omega arith) in
      absurd (omega (arith, f.even_above (omega arith), g.even_below (omega arith)))

  -- no other number is so
  pub only_even : (r : ℕ) → NearestEven n d r → r ≡ half_even n d
  only_even r f = le_antisymm (at_most r _ f nearest_even _ refl) (at_most _ r nearest_even f _ refl)

-- "step 2 of the price rounds an exact half to the even fen", in each of its bands
module _ (p e : ℕ) where
  pub even_from_5300 : 5_300 ≤ e → NearestEven (p * e) 5_500 (price_by_band p e)
  unfolding price_by_band
  even_from_5300 h = rw (le-leb 5_300 e h) (nearest_even _ _ (omega arith))

  pub even_from_4800 : e < 5_300 → 4_800 ≤ e → NearestEven (p * e * 8_768) 50_000_000 (price_by_band p e)
  unfolding price_by_band
  even_from_4800 g h = rw (lt-leb 5_300 e g, le-leb 4_800 e h) (nearest_even _ _ (omega arith))

  pub even_from_4300 : e < 4_800 → 4_300 ≤ e → NearestEven (p * e * 7_687) 45_000_000 (price_by_band p e)
  unfolding price_by_band
  even_from_4300 g h = rw (lt-leb 5_300 e (omega arith), lt-leb 4_800 e g, le-leb 4_300 e h) (nearest_even _ _ (omega arith))

  pub even_below_4300 : e < 4_300 → NearestEven (p * e * 7_687) 90_000_000 (price_by_band p e)
  unfolding price_by_band
  even_below_4300 g = rw (lt-leb 5_300 e (omega arith), lt-leb 4_800 e (omega arith), lt-leb 4_300 e g) (nearest_even _ _ (omega arith))

  -- "step 2 gives P × entry / 4,950,000,000 rounded as in Job 3", by every heat table
  pub even_by_entry : (heats : List ℕ) → 4_300 ≤ e → NearestEven (p * entry_of heats e) denominator (price_by_heat heats p e)
  unfolding price_by_heat
  even_by_entry heats h = rw (le-ltb e 4_300 h) (nearest_even _ _ (omega arith))
