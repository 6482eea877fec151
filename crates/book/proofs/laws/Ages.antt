-- In every reached book each account's lots say what the request's words say of them. By the order of the lots' days. Assumes nothing.
use Rattle.std.specs.Prelude.{◌≡◌, refl, Bool, not, ◌&&◌, List, [], ◌∷◌, ℕ, ◌+◌, ◌-◌, ◌≤◌, ◌<◌, eqb, ltb}
use Rattle.std.proofs.Math.Bool.{true, false}
use native.Mathlib.Omega.{arith}
use Rattle.std.proofs.Common.{eqb-true, ne_eqb, ltb-true, ltb-false, lt-ltb}
use Rattle.std.proofs.lemmas.Bool.{eqb-false}
use Rattle.coal.specs.Choice.{pick}
use Rattle.book.specs.Types.{Side, Lot, Lots, Account, Book}
use Rattle.book.specs.Counting.{one_if}
use Rattle.book.specs.Rows.{lots_of, lot_off, needs_fifth, with_position, units_on, units_off}
use Rattle.book.specs.Tables.{account_at}
use Rattle.book.specs.Lists.{Reached}
use Rattle.book.specs.Ages.{lots_total, older_lot, opened_before, other_day, Ages}
use Rattle.book.proofs.laws.Counting.{by_pick, one_most}
use Rattle.book.proofs.laws.Sound.{SoundAccount}
use Rattle.book.proofs.laws.Walking.{all_map}
use Rattle.book.proofs.laws.Listing.{Rising}
use Rattle.book.proofs.laws.Sharing.{of_day, rising_lots, none_older_lots}
use Rattle.book.proofs.laws.Reaching.{sound}

-- ---- used up

-- u units less of a list of lots, the first ones first
unfoldable off : ℕ → List Lot → List Lot
off u [] = []
off u (x ∷ l) = lot_off x u ∷ off (u - x.units) l

off_older : (d u : ℕ) (l : List Lot) → Rising of_day l → lots_total (older_lot d) (off u l) ≡ lots_total (older_lot d) l - u
unfolding lots_total off
off_older d u [] r = omega arith
off_older d u (x ∷ l) r = go (ltb x.day d) refl (off_older d (u - x.units) l r.1)
  where
    go : (t : Bool) → ltb x.day d ≡ t → lots_total (older_lot d) (off (u - x.units) l) ≡ lots_total (older_lot d) l - (u - x.units)
        → pick t (x.units - u) 0 + lots_total (older_lot d) (off (u - x.units) l) ≡ pick t x.units 0 + lots_total (older_lot d) l - u
    go true e f = omega arith
    go false e f =
        let o = ltb-false x.day d e in
        omega (arith, none_older_lots d l (all_map (λ (y : Lot). x.day ≤ y.day) (λ (y : Lot). d ≤ y.day) l (λ y q. omega arith) r.0))

used : {day : ℕ} (a : Account) → SoundAccount day a → (u d : ℕ) → opened_before d (units_off a u) ≡ opened_before d a - u
unfolding off
used a r u d = off_older d u (lots_of a) (rising_lots r)

-- ---- added

module _ (a : Account) (s : Side) (u d : ℕ) where
  -- on the newest lot's day, and with another newest lot
  added_same : (day : ℕ) → a.lots.newest.day ≡ day → opened_before d (with_position a s (a.units + u) (record { oldest = a.lots.oldest; second = a.lots.second; third = a.lots.third; newest = record { day = day; units = a.lots.newest.units + u } })) ≡ opened_before d a + pick (ltb day d) u 0
  unfolding lots_total
  added_same day e = rw e (go (ltb day d))
    where
      go : (t : Bool) → older_lot d a.lots.oldest + (older_lot d a.lots.second + (older_lot d a.lots.third + (pick t (a.lots.newest.units + u) 0 + 0))) ≡ older_lot d a.lots.oldest + (older_lot d a.lots.second + (older_lot d a.lots.third + (pick t a.lots.newest.units 0 + 0))) + pick t u 0
      go true = omega arith
      go false = omega arith

  added_new : (day : ℕ) → a.lots.oldest.units ≤ 0 → opened_before d (with_position a s (a.units + u) (record { oldest = a.lots.second; second = a.lots.third; third = a.lots.newest; newest = record { day = day; units = u } })) ≡ opened_before d a + pick (ltb day d) u 0
  unfolding lots_total
  added_new day h =
      let z : older_lot d a.lots.oldest ≤ 0 = by_pick (λ (x : ℕ). x ≤ 0) (ltb a.lots.oldest.day d) (λ e. h) (λ e. omega arith) in
      omega arith

  added_lot : (day : ℕ) → needs_fifth a.lots day ≡ false → opened_before d (units_on a s u day) ≡ opened_before d a + pick (ltb day d) u 0
  added_lot day h = by_pick (λ (l : Lots). opened_before d (with_position a s (a.units + u) l) ≡ opened_before d a + pick (ltb day d) u 0) (eqb a.lots.newest.day day)
      (λ e. added_same day (eqb-true _ _ e))
      (λ e. added_new day (ltb-false _ _ (rw e at h)))

-- ---- all units, and the fifth day

all_of_them : {day : ℕ} (a : Account) → SoundAccount day a → opened_before (day + 1) a ≡ a.units
unfolding lots_total
all_of_them {day} a r =
    let l = r.in_lots in
    let p = l.newest_day in
    let q = l.past in
    rw (lt-ltb a.lots.oldest.day (day + 1) (omega (arith, l.second_day, l.third_day)), lt-ltb a.lots.second.day (day + 1) (omega (arith, l.third_day)), lt-ltb a.lots.third.day (day + 1) (omega arith), lt-ltb a.lots.newest.day (day + 1) (omega arith))
    (omega (arith, l.whole))

abbrev one : ℕ → Lot → ℕ
one day x = one_if (other_day day x)

in_use : (day : ℕ) (x : Lot) → 0 < x.units → x.day < day → one day x ≡ 1
in_use day x h g = rw (lt-ltb 0 x.units h, ne_eqb x.day day (λ e. absurd (omega arith)))

not_other : (day : ℕ) (x : Lot) → eqb x.day day ≡ true → one day x ≡ 0
not_other day x e = rw e (go (ltb 0 x.units))
  where
    go : (t : Bool) → one_if (t && false) ≡ 0
    go true = refl
    go false = refl

fewer : (n : ℕ) → n ≤ 3 → false ≡ eqb n 4
fewer n h = rw (ne_eqb n 4 (λ e. absurd (omega arith)))

fifth : {day : ℕ} (a : Account) → SoundAccount day a → needs_fifth a.lots day ≡ eqb (lots_total (one day) (lots_of a)) 4
unfolding lots_total
fifth {day} a r = go (eqb n.day day) refl (ltb 0 o.units) refl
  where
    o : Lot
    o = a.lots.oldest

    s : Lot
    s = a.lots.second

    t : Lot
    t = a.lots.third

    n : Lot
    n = a.lots.newest

    go : (p : Bool) → eqb n.day day ≡ p → (q : Bool) → ltb 0 o.units ≡ q → not p && q ≡ eqb (one day o + (one day s + (one day t + (one day n + 0)))) 4
    go true e q g = fewer (one day o + (one day s + (one day t + (one day n + 0)))) (omega (arith, not_other day n e, one_most (other_day day o), one_most (other_day day s), one_most (other_day day t)))
    go false e true g =
        let l = r.in_lots in
        let w = ltb-true 0 o.units g in
        let x = l.second_taken w in
        let y = l.third_taken x in
        let z = l.newest_taken y in
        let d = eqb-false n.day day e in
        let c : n.day < day = omega (arith, l.past) in
        let k : t.day < day = omega (arith, l.newest_later y) in
        let j : s.day < day = omega (arith, l.third_later x) in
        rw (in_use day o w (omega (arith, l.second_later w)), in_use day s x j, in_use day t y k, in_use day n z c)
    go false e false g = fewer (one day o + (one day s + (one day t + (one day n + 0)))) (omega (arith, free, one_most (other_day day s), one_most (other_day day t), one_most (other_day day n)))
      where
        free : one day o ≡ 0
        free = rw g refl

-- "An account now records up to four opening days with the units of each."
pub ages : (b : Book) → Reached b → (k : ℕ) → k < b.account_count → Ages b.day (account_at b k)
ages b h k g =
    let r = (sound h).tables.core.accounts.rows k g in
    let a = account_at b k in
    record { all_units = all_of_them a r; added = λ s u d n. added_lot a s u d b.day n; used_up = λ u d. used a r u d; fifth_day = fifth a r }
