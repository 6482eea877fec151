-- The printed table is a heat table, "Job 9's if none was loaded": its entries rise. Assumes nothing.
use Rattle.std.specs.Prelude.{◌≡◌, Bool, true, false, ℕ, ◌-◌, ◌≤◌, leb}
use Rattle.std.proofs.Common.{refl, sym, arith, le_refl, le-leb, leb-true}
use Rattle.std.proofs.Math.Nat.{mul-le-mul}
use mathlib.Core.Bool.{true≢false}
use Rattle.heats.specs.Each.{length_each}
use Rattle.heats.specs.HeatTables.{IsHeatTable}
use Rattle.heats.specs.Numerators.{factor, factor_within, numerator, heat_table, entry, numerator_least, numerator_most}

-- a greater heat is in the same band or in one of a greater factor
factor_rises : (t u v w : Bool) → (t ≡ true → v ≡ true) → (u ≡ true → w ≡ true) → factor t u ≤ factor v w
factor_rises true u true w f g = le_refl (factor true u)
factor_rises true u false w f g = absurd (true≢false (sym (f refl)))
factor_rises false true true w f g = omega arith
factor_rises false true false true f g = le_refl (factor false true)
factor_rises false true false false f g = absurd (true≢false (sym (g refl)))
factor_rises false false v w f g = (factor_within v w).0

numerator_rises : (d e : ℕ) → d ≤ e → numerator d ≤ numerator e
unfolding numerator
numerator_rises d e h = mul-le-mul h (factor_rises (leb 5_300 d) (leb 4_800 d) (leb 5_300 e) (leb 4_800 e) (above 5_300) (above 4_800))
  where
    above : (n : ℕ) → leb n d ≡ true → leb n e ≡ true
    above n k = le-leb n e (omega (arith, leb-true n d k))

-- the printed table is a heat table
pub printed_table : IsHeatTable heat_table
unfolding heat_table
printed_table = record {
  size = length_each numerator 1_701 4_300;
  some = λ e h k. omega (arith, entry refl e h k, numerator_least e h);
  few = λ e h k. omega (arith, entry refl e h k, numerator_most e k);
  rising = λ e h k. omega (arith, entry refl (e - 1) (omega arith) (omega arith), entry refl e (omega arith) k, numerator_rises (e - 1) e (omega arith));
}
