-- A signed number below 0 is a minus sign and its size. Assumes nothing.
use Prim.Native.Nat.{ℕ}
use native.Mathlib.Omega.{arith}
use mathlib.Core.Path.{◌≡◌, sym, ap, ◌∙◌}
use mathlib.Core.Bool.{true}
use mathlib.Core.List.{List, ◌∷◌}
use borrow.Author.Tests.{ltb-true}
use lib.IntN.{ℤ, pos, negsuc, nat_abs}
use lib.Signed.{lt_z}
use mir.Syntax.{w64}
use mir.Val.{SFits, to_z, of_z}
use mir.ValLaws.{to_z-of_z}
use Rattle.text.specs.Print.{with_sign}

-- a number as it is kept in 64 bits and read again
abbrev pub kept : ℤ → ℤ
kept z = to_z w64 (of_z w64 z)

pub below : (z : ℤ) (f : ℕ → List ℕ) → SFits w64 z → lt_z (kept z) (pos 0) ≡ true → 45 ∷ f (nat_abs (kept z)) ≡ with_sign f z
below (pos n) f g h = absurd (omega (arith, ltb-true n 0 (sym (ap (λ (z : ℤ). lt_z z (pos 0)) (to_z-of_z w64 (pos n) g)) ∙ h)))
below (negsuc n) f g h = ap (λ (z : ℤ). 45 ∷ f (nat_abs z)) (to_z-of_z w64 (negsuc n) g)
