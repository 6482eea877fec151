-- Step 2 by a heat table, as document 02's Jobs 9 and 10 have it: laws of the price by heat, for every price of a match. Assumes nothing.
use Rattle.std.specs.Prelude.{◌≡◌, refl, Bool, true, false, List, ℕ, ◌+◌, ◌*◌, ◌≤◌, ◌<◌, leb, ltb}
use Rattle.std.proofs.Common.{ap, le_of_mul-le-mul_right, mul-le-mul, mul_assoc, mul-pos, arith}
use borrow.Author.Tests.{le-leb, lt-leb, lt-ltb, le-ltb}
use Rattle.std.proofs.Common.{ltb-false}
use Rattle.heats.specs.HeatTables.{entry_of}
use Rattle.heats.specs.Numerators.{factor, numerator, heat_table, denominator, entry}
use Rattle.coal.specs.Choice.{pick}
use Rattle.coal.specs.Coal.{half_even, price_by_band, price_by_heat}
use Rattle.coal.proofs.laws.Rounding.{NearestEven, nearest_even, only_even}

-- a fraction whose two numbers are both k times as large is rounded to the same number
extended : (n d k : ℕ) → 0 < d → 0 < k → half_even (n * k) (d * k) ≡ half_even n d
extended n d k p h = same (half_even (n * k) (d * k)) (nearest_even (n * k) (d * k) (mul-pos p h))
  where
    same : (r : ℕ) → NearestEven (n * k) (d * k) r → r ≡ half_even n d
    same r f =
        let a : 2 * (r * d) * k ≤ (2 * n + d) * k = omega (arith, f.above, mul_assoc r d k) in
        let b : 2 * n * k ≤ (2 * (r * d) + d) * k = omega (arith, f.below, mul_assoc r d k) in
        only_even n d p r
        record {
          above = le_of_mul-le-mul_right a h;
          below = le_of_mul-le-mul_right b h;
          even_above = λ e. f.even_above (omega (arith, mul_assoc r d k, ap (λ (i : ℕ). i * k) e));
          even_below = λ e. f.even_below (omega (arith, mul_assoc r d k, ap (λ (i : ℕ). i * k) e));
        }

module _ (p e : ℕ) where
  -- by the rule of the numerators, at every heat from 4,300 on
  pub by_numerator : 4_300 ≤ e → half_even (p * numerator e) denominator ≡ price_by_band p e
  unfolding numerator price_by_band
  by_numerator h = cases (leb 5_300 e) (leb 4_800 e)
    where
      -- n is p times e with the band's own factor
      widened : (n d k m : ℕ) → 0 < d → 0 < k → p * (e * m) ≡ n * k → half_even (p * (e * m)) (d * k) ≡ half_even n d
      widened n d k m f g q = rw q (extended n d k f g)

      cases : (t u : Bool) → half_even (p * (e * factor t u)) denominator
          ≡ pick t (half_even (p * e) 5_500) (pick u (half_even (p * e * 8_768) 50_000_000) (pick (leb 4_300 e) (half_even (p * e * 7_687) 45_000_000) (half_even (p * e * 7_687) 90_000_000)))
      cases true u = widened (p * e) 5_500 900_000 900_000 (omega arith) (omega arith) (omega (arith, mul_assoc p e 900_000))
      cases false true = widened (p * e * 8_768) 50_000_000 99 868_032 (omega arith) (omega arith) (omega (arith, mul_assoc p e 868_032))
      cases false false = rw (le-leb 4_300 e h) (widened (p * e * 7_687) 45_000_000 110 845_570 (omega arith) (omega arith) (omega (arith, mul_assoc p e 845_570)))

  -- "every price at those heats is what step 2 gives": P × entry / 4,950,000,000, an exact half to the even fen, the entry of heat 4,300 first
  pub by_table : 4_300 ≤ e → e ≤ 6_000 → half_even (p * entry_of heat_table e) denominator ≡ price_by_band p e
  by_table h k = rw (entry refl e h k) (by_numerator h)

  -- so by the printed table, "Job 9's if none was loaded", step 2 is document 01's at every heat that step 1 gives
  pub printed_price : e ≤ 6_000 → price_by_heat heat_table p e ≡ price_by_band p e
  unfolding price_by_heat
  printed_price k = go (ltb e 4_300) refl
    where
      go : (t : Bool) → ltb e 4_300 ≡ t → pick t (price_by_band p e) (half_even (p * entry_of heat_table e) denominator) ≡ price_by_band p e
      go true q = refl
      go false q = by_table (ltb-false e 4_300 q) k

  module _ (heats : List ℕ) where
    -- by any table, from 4,300 on
    pub by_entry : 4_300 ≤ e → half_even (p * entry_of heats e) denominator ≡ price_by_heat heats p e
    unfolding price_by_heat
    by_entry h = rw (le-ltb e 4_300 h)

    -- "Heats under 4,300 keep the formula.": its fourth band, whatever the table
    pub below_table : e < 4_300 → half_even (p * e * 7_687) 90_000_000 ≡ price_by_heat heats p e
    unfolding price_by_band price_by_heat
    below_table h = rw (lt-ltb e 4_300 h, lt-leb 5_300 e (omega arith), lt-leb 4_800 e (omega arith), lt-leb 4_300 e h)

-- P times an entry is far from 64 bits
pub entry_most : (p n : ℕ) → p ≤ 1_000_000 → n ≤ 5_400_000_000 → p * n ≤ 5_400_000_000_000_000
entry_most p n h k = mul-le-mul h k
