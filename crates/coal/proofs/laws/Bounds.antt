-- No step makes more of a price or a weight: bounds of what the definitions of Coal give, which callers need against overflow. Assumes nothing.
use Rattle.std.specs.Prelude.{◌≡◌, refl, Bool, true, false, List, ℕ, ◌≤◌, ◌<◌, ◌+◌, ◌-◌, ◌*◌, ◌/◌, min, ltb, leb}
use Rattle.std.proofs.Common.{le_refl, mul-le-mul, sub-le, arith, ltb-true, ltb-false}
use Rattle.std.proofs.Math.Nat.{le_trans, le_of_lt, mul-le-mul_left}
use Rattle.heats.specs.HeatTables.{IsHeatTable, entry_of}
use Rattle.heats.specs.Numerators.{denominator}
use Rattle.coal.specs.Choice.{pick}
use Rattle.coal.specs.Coal.{half_up, half_even, percent_down, percent_half_up, settled_heat, price_by_band, price_by_heat, less_short_heat, less_sulphur, by_sulphur, outside, by_volatiles_or_ash, coal_price, weight_within, by_moisture, coal_weight, amount}
use Rattle.coal.proofs.laws.Rounding.{nearest_even}
use Rattle.coal.proofs.laws.HeatTable.{entry_most}
use Rattle.coal.specs.declared.Weighed.{Weighed}
use Rattle.coal.specs.Ranges.{most_match_price, most_due, most_price, most_weight, most_amount}

-- a choice is at most m where what it takes is
pick_most : (t : Bool) (a b m : ℕ) → (t ≡ true → a ≤ m) → (t ≡ false → b ≤ m) → pick t a b ≤ m
pick_most true a b m f g = f refl
pick_most false a b m f g = g refl

pub percent_down_most : (x n : ℕ) → x ≤ 100 → percent_down x n ≤ n
unfolding percent_down
percent_down_most x n h = omega (arith, mul-le-mul_left n h)

pub settled_heat_most : (h q : ℕ) → settled_heat h q ≤ 6_000
unfolding settled_heat
settled_heat_most h q = omega arith

price_by_band_most : (p e : ℕ) → p ≤ most_match_price → e ≤ 6_000 → price_by_band p e ≤ most_price
unfolding price_by_band
price_by_band_most p e h k =
    let n : p * e ≤ 6_000_000_000 = mul-le-mul h k in
    pick_most (leb 5_300 e) _ _ _ (λ _. omega (arith, (nearest_even (p * e) 5_500 (omega arith)).above))
    (λ _. pick_most (leb 4_800 e) _ _ _ (λ _. omega (arith, (nearest_even (p * e * 8_768) 50_000_000 (omega arith)).above))
    (λ _. pick_most (leb 4_300 e) _ _ _ (λ _. omega (arith, (nearest_even (p * e * 7_687) 45_000_000 (omega arith)).above))
    (λ _. omega (arith, (nearest_even (p * e * 7_687) 90_000_000 (omega arith)).above))))

-- what `price_by_heat` rounds, by the formula and by every heat table: 5,400,000,000 is the entry of 6,000 in the printed one
module _ (p e : ℕ) (h : p ≤ most_match_price) where
  pub formula_most : e < 4_300 → half_even (p * e * 7_687) 90_000_000 ≤ most_price
  formula_most k = let n : p * e ≤ 4_300_000_000 = mul-le-mul h (le_of_lt k) in omega (arith, (nearest_even (p * e * 7_687) 90_000_000 (omega arith)).above)

  pub entry_price_most : (heats : List ℕ) → IsHeatTable heats → 4_300 ≤ e → e ≤ 6_000 → half_even (p * entry_of heats e) denominator ≤ most_price
  entry_price_most heats t g k = omega (arith, entry_most p (entry_of heats e) h (t.few e g k), (nearest_even (p * entry_of heats e) denominator (omega arith)).above)

  pub price_by_heat_most : (heats : List ℕ) → IsHeatTable heats → e ≤ 6_000 → price_by_heat heats p e ≤ most_price
  unfolding price_by_heat
  price_by_heat_most heats t k =
      pick_most (ltb e 4_300) _ _ _ (λ _. price_by_band_most p e h k) (λ f. entry_price_most heats t (ltb-false e 4_300 f) k)

-- a step from x, where x is at most m
module _ {x m : ℕ} (k : x ≤ m) where
  percent_half_up_most : (n : ℕ) → n ≤ 100 → percent_half_up n x ≤ m
  unfolding half_up percent_half_up
  percent_half_up_most n h = omega (arith, mul-le-mul_left x h)

  pub less_short_heat_most : (h q : ℕ) → less_short_heat h q x ≤ m
  unfolding less_short_heat
  less_short_heat_most h q = pick_most (ltb q (h - 300)) _ _ _ (λ _. omega arith) (λ _. k)

  pub less_sulphur_most : (s : ℕ) → less_sulphur s x ≤ m
  unfolding less_sulphur
  less_sulphur_most s = pick_most (ltb 80 (min s 150)) _ _ _ (λ _. le_trans (sub-le _ _) k) (λ _. k)

  pub by_sulphur_most : (s : ℕ) → by_sulphur s x ≤ m
  unfolding by_sulphur
  by_sulphur_most s =
      pick_most (ltb 250 s) _ _ _ (λ _. percent_half_up_most 50 (omega arith)) (λ _. pick_most (ltb 150 s) _ _ _ (λ _. percent_half_up_most 80 (omega arith)) (λ _. k))

  pub by_volatiles_or_ash_most : (f a : ℕ) → by_volatiles_or_ash f a x ≤ m
  unfolding by_volatiles_or_ash
  by_volatiles_or_ash_most f a = pick_most (outside f a) _ _ _ (λ _. percent_half_up_most 80 (omega arith)) (λ _. k)

-- the price of coal is at most 1,090,909 fen for a match's price within its range
pub coal_price_most : (heats : List ℕ) (p h q s f a : ℕ) → IsHeatTable heats → p ≤ most_match_price → coal_price heats p h q s f a ≤ most_price
unfolding coal_price
coal_price_most heats p h q s f a t k =
    search (by_volatiles_or_ash_most, by_sulphur_most, less_sulphur_most, less_short_heat_most, price_by_heat_most, settled_heat_most) depth 12

pub weight_within_most : (d w : ℕ) → weight_within d w ≤ d + 500_000
unfolding weight_within
weight_within_most d w =
    pick_most (ltb w (d - 500_000)) _ _ _ (λ e. omega (arith, ltb-true)) (λ _. pick_most (ltb (d + 500_000) w) _ _ _ (λ _. le_refl _) (λ e. omega (arith, ltb-false)))

by_moisture_most : (m w : ℕ) → by_moisture m w ≤ w
unfolding half_up by_moisture
by_moisture_most m w =
    pick_most (ltb 2_500 m) _ _ _
    (λ _. let h : 1_000 - (m - 2_500 + 5) / 10 ≤ 1_000 = sub-le _ _ in omega (arith, mul-le-mul_left w h))
    (λ _. le_refl _)

-- the settled weight is at most 500,000 kg above the weight due
pub coal_weight_most : (d w m : ℕ) → (coal_weight d w m).settled ≤ d + 500_000
unfolding coal_weight
coal_weight_most d w m = le_trans (by_moisture_most m _) (weight_within_most d w)

-- the amount is at most 21,818,725,454,500 fen
pub amount_most : (x w : ℕ) → x ≤ most_price → w ≤ most_weight → amount x w ≤ most_amount
unfolding half_up amount
amount_most x w h k = omega (arith, mul-le-mul h k)

-- an amount is a thousandth of price × weight, and half a fen more at most
pub amount_near : (x w : ℕ) → 1_000 * amount x w ≤ x * w + 500
unfolding half_up amount
amount_near x w = omega arith

-- the same of a result that a function promises, for callers
pub weighed : (d w m : ℕ) (r : Weighed) → r ≡ coal_weight d w m → d ≤ most_due → r.settled ≤ most_weight
weighed d w m r e k = rw e (omega (arith, coal_weight_most d w m))
