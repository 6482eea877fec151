-- The kilograms over, as document 02's Job 2 has them: laws of the weight rule. Assumes nothing.
use Rattle.std.specs.Prelude.{◌≡◌, refl, Bool, true, false, ℕ, ◌+◌, ◌-◌, ◌≤◌, ltb}
use Rattle.std.proofs.Common.{arith, le-ltb, ltb-true, ltb-false}
use Rattle.coal.specs.Choice.{pick}
use Rattle.coal.specs.Coal.{weight_within, coal_weight}

module _ (d w m : ℕ) where
  -- "the kilograms above D + 500,000": none up to there
  pub none_over : w ≤ d + 500_000 → (coal_weight d w m).over ≡ 0
  unfolding coal_weight
  none_over h = omega arith

  -- from L = D − 500,000 on, every kilogram weighed is in the weight before moisture or over
  pub each_counted : d - 500_000 ≤ w → weight_within d w + (coal_weight d w m).over ≡ w
  unfolding weight_within coal_weight
  each_counted h = rw (le-ltb w (d - 500_000) h) (capped (ltb (d + 500_000) w) refl)
    where
      capped : (t : Bool) → ltb (d + 500_000) w ≡ t → pick t (d + 500_000) w + (w - (d + 500_000)) ≡ w
      capped true e = omega (arith, ltb-true)
      capped false e = omega (arith, ltb-false)

  -- "taken before moisture"
  pub before_moisture : (n : ℕ) → (coal_weight d w m).over ≡ (coal_weight d w n).over
  unfolding coal_weight
  before_moisture n = refl
