-- One deduction for volatiles and ash, as document 02's Job 8 has it: laws of the price, for every price of a match, declared heat and measured value. Assumes nothing.
use Rattle.std.specs.Prelude.{◌≡◌, Bool, true, List, ℕ, ◌≤◌, ◌<◌}
use Rattle.std.proofs.Common.{◌∙◌, sym, ap, lt-ltb, le-ltb}
use Rattle.std.proofs.Math.Bool.{or-true}
use Rattle.coal.specs.Choice.{pick}
use Rattle.coal.specs.Coal.{percent_half_up, settled_heat, price_by_heat, less_short_heat, less_sulphur, by_sulphur, outside, by_volatiles_or_ash, coal_price}

-- "either is outside": "F below 3,000 or above 4,200", "A above 3,000"
pub data Outside (f a : ℕ) : Type 0 where
  volatiles_low : f < 3_000 → Outside f a
  volatiles_high : 4_200 < f → Outside f a
  ash_high : 3_000 < a → Outside f a

-- what steps 1 to 4 give: "P, heat and sulphur steps feed it unchanged."
abbrev pub fed : List ℕ → (p h q s : ℕ) → ℕ
fed heats p h q s = by_sulphur s (less_sulphur s (less_short_heat h q (price_by_heat heats p (settled_heat h q))))

is_outside : {f a : ℕ} → Outside f a → outside f a ≡ true
unfolding outside
is_outside {f} {a} (volatiles_low h) = rw (lt-ltb f 3_000 h)
is_outside {f} {a} (volatiles_high h) = rw (lt-ltb 4_200 f h, or-true)
is_outside {f} {a} (ash_high h) = rw (lt-ltb 3_000 a h, or-true)

module _ (heats : List ℕ) (p h q s : ℕ) where
  -- "Step 5 becomes a single 80%, half up, if either is outside."
  pub single : {f a : ℕ} → Outside f a → coal_price heats p h q s f a ≡ percent_half_up 80 (fed heats p h q s)
  unfolding by_volatiles_or_ash coal_price
  single o = ap (λ (t : Bool). pick t (percent_half_up 80 (fed heats p h q s)) (fed heats p h q s)) (is_outside o)

  -- and no deduction where neither is
  pub none : {f a : ℕ} → 3_000 ≤ f → f ≤ 4_200 → a ≤ 3_000 → coal_price heats p h q s f a ≡ fed heats p h q s
  unfolding outside by_volatiles_or_ash coal_price
  none {f} {a} l g i = rw (le-ltb f 3_000 l, le-ltb 4_200 f g, le-ltb 3_000 a i)

  -- "the ports now apply 80% once even where both are outside": the price is the same whichever is outside, and where both are
  pub once : {f a g b : ℕ} → Outside f a → Outside g b → coal_price heats p h q s f a ≡ coal_price heats p h q s g b
  once o u = single o ∙ sym (single u)
