-- "Each lot has its own age", the statement, in the words of document 02, Job 5: what the lots of an account say of its units. Assumes nothing.
use Rattle.std.specs.Prelude.{◌≡◌, Bool, false, not, ◌&&◌, List, [], ◌∷◌, ℕ, ◌+◌, ◌-◌, eqb, ltb}
use Rattle.coal.specs.Choice.{pick}
use Rattle.book.specs.Types.{Side, Lot, Account}
use Rattle.book.specs.Counting.{one_if}
use Rattle.book.specs.Rows.{lots_of, needs_fifth, units_on, units_off}

-- f of each of these lots, added up
unfoldable pub lots_total : (Lot → ℕ) → List Lot → ℕ
lots_total f [] = 0
lots_total f (x ∷ xs) = f x + lots_total f xs

-- the units of a lot of an earlier day than d
abbrev pub older_lot : ℕ → Lot → ℕ
older_lot d x = pick (ltb x.day d) x.units 0

-- the units of an account that were opened before day d
abbrev pub opened_before : ℕ → Account → ℕ
opened_before d a = lots_total (older_lot d) (lots_of a)

-- whether a lot is in use, and of another day
abbrev pub other_day : ℕ → Lot → Bool
other_day day x = ltb 0 x.units && not (eqb x.day day)

-- an account of a book at this day
pub record Ages (day : ℕ) (a : Account) : Type 0 where
  -- "opening days with the units of each": all of its units, and none of a day to come
  pub all_units : opened_before (day + 1) a ≡ a.units
  -- Trade: u units more, opened today, and nothing else
  pub added : (s : Side) (u d : ℕ) → needs_fifth a.lots day ≡ false → opened_before d (units_on a s u day) ≡ opened_before d a + pick (ltb day d) u 0
  -- "use up the oldest first": of those opened before any day u less, as far as there are
  pub used_up : (u d : ℕ) → opened_before d (units_off a u) ≡ opened_before d a - u
  -- "28 when a trade would need a fifth opening day": just where four lots of other days are in use
  pub fifth_day : needs_fifth a.lots day ≡ eqb (lots_total (λ x. one_if (other_day day x)) (lots_of a)) 4
