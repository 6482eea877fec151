-- A test, both ways. Assumes nothing.
use Rattle.std.specs.Prelude.{◌≡◌, ◌≢◌, refl, Bool, true, false, ℕ, ◌≤◌, ◌<◌, ltb, eqb}
use Rattle.std.proofs.Common.{eqb-true}
use Rattle.std.proofs.lemmas.Bool.{ltb-true, ltb-false, eqb-false}

pub by_test : {P : Type 0} (t : Bool) → (t ≡ true → P) → (t ≡ false → P) → P
by_test true h g = h refl
by_test false h g = g refl

-- one number below another, or not
pub by_less : {P : Type 0} (j k : ℕ) → (j < k → P) → (k ≤ j → P) → P
by_less j k h g = by_test (ltb j k) (λ t. h (ltb-true j k t)) (λ t. g (ltb-false j k t))

-- equal numbers, or not
pub by_eq : {P : Type 0} (j k : ℕ) → (j ≡ k → P) → (j ≢ k → P) → P
by_eq j k h g = by_test (eqb j k) (λ t. h (eqb-true j k t)) (λ t. g (eqb-false j k t))
