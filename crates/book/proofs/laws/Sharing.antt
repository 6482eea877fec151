-- Units given out from the front of a list of lots: what each account gets, and that in a list by days no lot gets a unit before those of earlier
-- days are filled. By induction on the list. Assumes nothing.
use Rattle.std.specs.Prelude.{◌≡◌, refl, Bool, true, false, List, [], ◌∷◌, ℕ, zero, suc, ◌+◌, ◌-◌, ◌≤◌, ◌<◌, min, ltb, eqb, get_or}
use Rattle.std.proofs.Common.{ap, ◌∙◌, arith, ltb-true, ltb-false, eqb-true, lt-ltb, le-ltb}
use Rattle.coal.specs.Choice.{pick}
use Rattle.book.specs.Types.{Lot, Account, Listed}
use Rattle.book.specs.Counting.{All}
use Rattle.book.specs.Rows.{no_lot, lots_of}
use Rattle.book.specs.Closing.{use_up}
use Rattle.book.specs.Demand3.{counts_for}
use Rattle.book.specs.Ages.{lots_total, older_lot}
use Rattle.book.proofs.laws.Counting.{by_pick, only, only_most, only_plus, only_split}
use Rattle.book.proofs.laws.Sound.{SoundAccount}
use Rattle.book.proofs.laws.Walking.{all_map, sum_of}
use Rattle.book.proofs.laws.Listing.{Rising, ByDay}
use Rattle.book.specs.Joining.{join_lot, join_lots}

-- ---- what an account gets

-- of g units that are given out from the front of a list, those of account k
unfoldable pub share : ℕ → ℕ → List Listed → ℕ
share k g [] = 0
share k g (x ∷ xs) = only x.account (min g x.left) k + share k (g - x.left) xs

pub share_none : (k : ℕ) (l : List Listed) → share k 0 l ≡ 0
unfolding share
share_none k [] = refl
share_none k (x ∷ l) =
    let e : 0 - x.left ≡ 0 = omega arith in
    let r = share_none k l in
    rw e (omega (arith, only_most x.account (min 0 x.left) k))

-- u units given to the front, and then g
pub share_turn : (k u g : ℕ) (x : Listed) (l : List Listed) → u ≤ x.left → share k (u + g) (x ∷ l) ≡ only x.account u k + share k g (use_up u x l)
unfolding share
share_turn k u g x l h =
    by_pick (λ (m : List Listed). only x.account (min (u + g) x.left) k + share k (u + g - x.left) l ≡ only x.account u k + share k g m) (eqb (x.left - u) 0)
    (λ e.
    let z : x.left - u ≡ 0 = eqb-true _ _ e in
    let a : min (u + g) x.left ≡ u = omega arith in
    let c : u + g - x.left ≡ g = omega arith in
    rw (a, c) refl)
    (λ e.
    let a : min (u + g) x.left ≡ u + min g (x.left - u) = omega arith in
    let c : u + g - x.left ≡ g - (x.left - u) = omega arith in
    rw (a, c) (omega (arith, only_plus x.account u (min g (x.left - u)) k)))

-- lots that are joined get what they got
share_join : (k g : ℕ) (x : Listed) (l : List Listed) → share k g (join_lot x l) ≡ share k g (x ∷ l)
unfolding share join_lot
share_join k g x [] = refl
share_join k g x (y ∷ l) = by_pick (λ (m : List Listed). share k g m ≡ only x.account (min g x.left) k + (only y.account (min (g - x.left) y.left) k + share k (g - x.left - y.left) l)) (eqb x.account y.account)
    (λ e.
    let a : min g (x.left + y.left) ≡ min g x.left + min (g - x.left) y.left = omega arith in
    let c : g - (x.left + y.left) ≡ g - x.left - y.left = omega arith in
    rw (a, c, ← eqb-true x.account y.account e) (omega (arith, only_plus x.account (min g x.left) (min (g - x.left) y.left) k)))
    (λ e. refl)

pub shares_joined : (k g : ℕ) (l : List Listed) → share k g (join_lots l) ≡ share k g l
unfolding share join_lots
shares_joined k g [] = refl
shares_joined k g (x ∷ l) = share_join k g x (join_lots l) ∙ ap (λ (u : ℕ). only x.account (min g x.left) k + u) (shares_joined k (g - x.left) l)

-- ---- by days

-- what is listed of an earlier day than d
abbrev pub older : ℕ → Listed → ℕ
older d x = pick (ltb x.day d) x.left 0

none_older : (k d : ℕ) (l : List Listed) → All (λ (x : Listed). d ≤ x.day) l → sum_of (older d) k l ≡ 0
unfolding sum_of
none_older k d [] h = refl
none_older k d (x ∷ l) h = rw (le-ltb x.day d h.0) (omega (arith, none_older k d l h.1, only_most x.account 0 k))

-- if an account got more than its units of earlier days, every account got at least its own
pub older_first : (k l d g : ℕ) (xs : List Listed) → ByDay xs → sum_of (older d) k xs < share k g xs → sum_of (older d) l xs ≤ share l g xs
unfolding sum_of share
older_first k l d g [] r h = omega arith
older_first k l d g (x ∷ xs) r h = go (ltb x.day d) refl (older_first k l d (g - x.left) xs r.1) h
  where
    a : ℕ
    a = x.account

    v : ℕ
    v = x.left

    filled : (t : Bool) → ltb g v ≡ t → (sum_of (older d) k xs < share k (g - v) xs → sum_of (older d) l xs ≤ share l (g - v) xs)
        → only a v k + sum_of (older d) k xs < only a (min g v) k + share k (g - v) xs → only a v l + sum_of (older d) l xs ≤ only a (min g v) l + share l (g - v) xs
    filled true e f m =
        let o = ltb-true g v e in
        let z : g - v ≡ 0 = omega arith in
        let u : min g v ≡ g = omega arith in
        let y = rw (z, u, share_none k xs) at m in
        absurd (omega (arith, only_split a k g v (omega arith)))
    filled false e f m =
        let o = ltb-false g v e in
        let u : min g v ≡ v = omega arith in
        let y = rw u at m in
        rw u (omega (arith, f (omega arith)))

    go : (t : Bool) → ltb x.day d ≡ t → (sum_of (older d) k xs < share k (g - v) xs → sum_of (older d) l xs ≤ share l (g - v) xs)
        → only a (pick t v 0) k + sum_of (older d) k xs < only a (min g v) k + share k (g - v) xs → only a (pick t v 0) l + sum_of (older d) l xs ≤ only a (min g v) l + share l (g - v) xs
    go true e f m = filled (ltb g v) refl f m
    go false e f m =
        let o = ltb-false x.day d e in
        omega (arith, only_most a 0 l, none_older l d xs (all_map (λ (y : Listed). x.day ≤ y.day) (λ (y : Listed). d ≤ y.day) xs (λ y q. omega arith) r.0))

-- ---- the lots of one account

abbrev pub of_day : Lot → ℕ
of_day x = x.day

-- they stand in rising order of days
pub rising_lots : {day : ℕ} {a : Account} → SoundAccount day a → Rising of_day (lots_of a)
rising_lots {a = a} r =
    let l = r.in_lots in
    let q : a.lots.oldest.day ≤ a.lots.third.day = omega (arith, l.second_day, l.third_day) in
    let c : a.lots.second.day ≤ a.lots.newest.day = omega (arith, l.third_day, l.newest_day) in
    let d : a.lots.oldest.day ≤ a.lots.newest.day = omega (arith, l.second_day) in
    ((l.second_day, (q, (d, tt))), ((l.third_day, (c, tt)), ((l.newest_day, tt), (tt, tt))))

pub none_older_lots : (d : ℕ) (l : List Lot) → All (λ (x : Lot). d ≤ x.day) l → lots_total (older_lot d) l ≡ 0
unfolding lots_total
none_older_lots d [] h = refl
none_older_lots d (x ∷ l) h = rw (le-ltb x.day d h.0) (omega (arith, none_older_lots d l h.1))

-- a lot that got a unit: more was given than the units of earlier days
pub got_some : (g : ℕ) (l : List Lot) (i : ℕ) → Rising of_day l → 0 < counts_for g l i → lots_total (older_lot (get_or l i no_lot).day) l < g
unfolding counts_for lots_total
got_some g [] i r h = absurd (omega arith)
got_some g (x ∷ l) zero r h = rw (le-ltb x.day x.day (omega arith)) (omega (arith, none_older_lots x.day l r.0))
got_some g (x ∷ l) (suc i) r h =
    let d = (get_or l i no_lot).day in
    let m : older_lot d x ≤ x.units = by_pick (λ (u : ℕ). u ≤ x.units) (ltb x.day d) (λ e. omega arith) (λ e. omega arith) in
    omega (arith, got_some (g - x.units) l i r.1 h)

-- of nothing nothing counts
pub got_nothing : (l : List Lot) (i : ℕ) → counts_for 0 l i ≡ 0
unfolding counts_for
got_nothing [] i = refl
got_nothing (x ∷ l) zero = omega arith
got_nothing (x ∷ l) (suc i) = let e : 0 - x.units ≡ 0 = omega arith in rw e (got_nothing l i)

-- none of these lots is of an earlier day than d
got_none : (g d : ℕ) (l : List Lot) (i : ℕ) → All (λ (x : Lot). d ≤ x.day) l → (get_or l i no_lot).day < d → counts_for g l i ≡ (get_or l i no_lot).units
unfolding counts_for
got_none g d [] i h e = refl
got_none g d (x ∷ l) zero h e = absurd (omega (arith, h.0))
got_none g d (x ∷ l) (suc i) h e = got_none (g - x.units) d l i h.1 e

-- where all units of earlier days than d were given, each lot of an earlier day is filled
pub got_all : (g d : ℕ) (l : List Lot) (i : ℕ) → Rising of_day l → lots_total (older_lot d) l ≤ g → (get_or l i no_lot).day < d → counts_for g l i ≡ (get_or l i no_lot).units
unfolding counts_for lots_total
got_all g d [] i r h e = refl
got_all g d (x ∷ l) zero r h e = let m = rw (lt-ltb x.day d e) at h in omega arith
got_all g d (x ∷ l) (suc i) r h e = go (ltb x.day d) refl h (λ f. got_all (g - x.units) d l i r.1 f e)
  where
    go : (t : Bool) → ltb x.day d ≡ t → pick t x.units 0 + lots_total (older_lot d) l ≤ g → (lots_total (older_lot d) l ≤ g - x.units → counts_for (g - x.units) l i ≡ (get_or l i no_lot).units)
        → counts_for (g - x.units) l i ≡ (get_or l i no_lot).units
    go true q m f = f (omega arith)
    go false q m f =
        let o = ltb-false x.day d q in
        got_none (g - x.units) d l i (all_map (λ (y : Lot). x.day ≤ y.day) (λ (y : Lot). d ≤ y.day) l (λ y p. omega arith) r.0) e
