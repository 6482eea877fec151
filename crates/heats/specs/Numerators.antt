-- Document 02, Job 9: the numerators by which step 2 of the coal price is looked up, "over the common denominator 4,950,000,000". Assumes nothing.
use Rattle.std.specs.Prelude.{◌≡◌, Bool, true, false, List, ℕ, ◌-◌, ◌*◌, ◌≤◌, leb}
use Rattle.std.proofs.Common.{add-sub_of_le, arith}
use Rattle.std.proofs.Math.Nat.{mul-le-mul}
use Rattle.heats.specs.Each.{each, each_at}
use Rattle.heats.specs.HeatTables.{entry_of}

-- "the common denominator 4,950,000,000"
abbrev pub denominator : ℕ
denominator = 4_950_000_000

-- by what a heat is multiplied, told whether it is from 5,300 and from 4,800 on
abbrev pub factor : Bool → Bool → ℕ
factor true u = 900_000
factor false true = 868_032
factor false false = 845_570

-- "heat × 900,000 from 5,300; heat × 868,032 from 4,800; heat × 845,570 from 4,300"
unfoldable pub numerator : ℕ → ℕ
numerator e = e * factor (leb 5_300 e) (leb 4_800 e)

-- "the numerators for heats 4,300 to 6,000, 1,701 entries", "lowest heat first"
unfoldable pub heat_table : List ℕ
heat_table = each numerator 1_701 4_300

-- the entry of a heat: what stands in a list that is the table
pub entry : {l : List ℕ} → l ≡ heat_table → (e : ℕ) → 4_300 ≤ e → e ≤ 6_000 → entry_of l e ≡ numerator e
unfolding heat_table
entry t e h k = rw (t, each_at numerator 1_701 4_300 (e - 4_300) (omega arith), add-sub_of_le h)

pub factor_within : (t u : Bool) → (845_570 ≤ factor t u) × (factor t u ≤ 900_000)
factor_within true u = (omega arith, omega arith)
factor_within false true = (omega arith, omega arith)
factor_within false false = (omega arith, omega arith)

-- no entry is below that of 4,300, and none above that of 6,000
module _ (e : ℕ) where
  pub numerator_least : 4_300 ≤ e → 3_635_951_000 ≤ numerator e
  unfolding numerator
  numerator_least h = mul-le-mul h (factor_within (leb 5_300 e) (leb 4_800 e)).0

  pub numerator_most : e ≤ 6_000 → numerator e ≤ 5_400_000_000
  unfolding numerator
  numerator_most h = mul-le-mul h (factor_within (leb 5_300 e) (leb 4_800 e)).1
