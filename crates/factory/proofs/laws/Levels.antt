-- Whole rounds, one after the other: after r of them each holder has the lesser of r and what it had in the morning. Assumes nothing.
use Rattle.std.specs.Prelude.{◌≡◌, refl, true, false, List, [], ◌∷◌, map, ℕ, zero, suc, ◌+◌, ◌-◌, ◌*◌, ◌≤◌, ◌<◌, min, length, get_or}
use Rattle.std.proofs.Common.{ap, ap₂, ◌∙◌, arith, lt-ltb, le-ltb, add-one}
use Rattle.std.proofs.Math.Nat.{mul-zero, mul-one, mul-add}
use mathlib.Core.Logic.{inl, inr}
use Rattle.factory.specs.Day.{Holder, holder, waits, dispatched}
use Rattle.factory.specs.Rounds.{above, taken, AreWhole}
use Rattle.factory.proofs.Tests.{by_less}
use Rattle.factory.proofs.laws.Rounds.{rounded, waits_rounded, served_rounded, count_waiting, one_round, last_round}

-- a holder who had x units in the morning, after r whole rounds
abbrev pub at_level : ℕ → ℕ → Holder
at_level r x = record { left = x - r; share = min x r }

levels : (r s x y : ℕ) → x - r ≡ y - s → min x r ≡ min y s → at_level r x ≡ at_level s y
levels r s x y e h = rw (e, h) refl

pub still_waits : (r x : ℕ) → r < x → waits (at_level r x) ≡ true
still_waits r x h = lt-ltb _ _ (omega arith)

pub is_served : (r x : ℕ) → x ≤ r → waits (at_level r x) ≡ false
is_served r x h = le-ltb _ _ (omega arith)

-- ---- how many wait, and what a round takes

pub none_above : (r : ℕ) → above r [] ≡ 0
unfolding above
none_above r = refl

pub above_more : (r x : ℕ) (l : List ℕ) → r < x → above r (x ∷ l) ≡ 1 + above r l
unfolding above
above_more r x l h = rw (lt-ltb _ _ h) refl

pub above_same : (r x : ℕ) (l : List ℕ) → x ≤ r → above r (x ∷ l) ≡ above r l
unfolding above
above_same r x l h = rw (le-ltb _ _ h) (omega arith)

pub waiting_are : (r : ℕ) (l : List ℕ) → count_waiting (map (at_level r) l) ≡ above r l
unfolding above count_waiting
waiting_are r [] = refl
waiting_are r (x ∷ l) =
    by_less r x
    (λ h. rw (still_waits r x h, lt-ltb _ _ h, waiting_are r l) refl)
    (λ h. rw (is_served r x h, le-ltb _ _ h, waiting_are r l) refl)

pub taken_next : (r : ℕ) (l : List ℕ) → taken (r + 1) l ≡ taken r l + above r l
unfolding taken
taken_next r [] = omega (arith, none_above r)
taken_next r (x ∷ l) =
    by_less r x
    (λ h. omega (arith, taken_next r l, above_more r x l h))
    (λ h. omega (arith, taken_next r l, above_same r x l h))

-- several rounds at once, where none is served in them
pub taken_by : (r s : ℕ) (l : List ℕ) → ((k : ℕ) → k < length l → r < get_or l k 0 → r + s ≤ get_or l k 0) → taken (r + s) l ≡ taken r l + s * above r l
unfolding taken
taken_by r s [] h = rw (none_above r, mul-zero s) (omega arith)
taken_by r s (x ∷ l) h =
    let t = taken_by r s l (λ k g e. h (suc k) (omega arith) e) in
    by_less r x
    (λ e. rw (above_more r x l e, mul-add s 1 (above r l), mul-one s) (omega (arith, t, h 0 (omega arith) e)))
    (λ e. rw (above_same r x l e) (omega (arith, t)))

pub none_taken : (l : List ℕ) → taken 0 l ≡ 0
unfolding taken
none_taken [] = refl
none_taken (x ∷ l) = omega (arith, none_taken l)

-- ---- a whole round

whole_round : (r u : ℕ) (l : List ℕ) → above r l ≤ u → rounded u (map (at_level r) l) ≡ map (at_level (r + 1)) l
unfolding rounded
whole_round r zero [] h = refl
whole_round r (suc u) [] h = refl
whole_round r u (x ∷ l) h =
    by_less r x
    (λ e. more u h e (whole_round r (u - 1) l (omega (arith, above_more r x l e))))
    (λ e. served_rounded u (at_level r x) (map (at_level r) l) (is_served r x e) ∙ ap₂ (λ y ys. y ∷ ys) (levels r (r + 1) x x (omega arith) (omega arith)) (whole_round r u l (omega (arith, above_same r x l e))))
  where
    more : (n : ℕ) → above r (x ∷ l) ≤ n → r < x → rounded (n - 1) (map (at_level r) l) ≡ map (at_level (r + 1)) l → rounded n (at_level r x ∷ map (at_level r) l) ≡ at_level (r + 1) x ∷ map (at_level (r + 1)) l
    more zero g e q = absurd (omega (arith, above_more r x l e))
    more (suc n) g e q =
        let z : suc n - 1 ≡ n = omega arith in
        let a : x - r - 1 ≡ x - (r + 1) = omega arith in
        let b : min x r + 1 ≡ min x (r + 1) = omega arith in
        waits_rounded n (at_level r x) (map (at_level r) l) (still_waits r x e) ∙ rw (a, b) (ap (λ ys. at_level (r + 1) x ∷ ys) (rw z at q))

morning_level : (l : List ℕ) → map holder l ≡ map (at_level 0) l
morning_level [] = refl
morning_level (x ∷ l) =
    let a : x - 0 ≡ x = omega arith in
    let b : min x 0 ≡ 0 = omega arith in
    rw (a, b) (ap (λ ys. holder x ∷ ys) (morning_level l))

-- units that go round are r whole rounds first, where there are as many as those take
whole_rounds : (r daily : ℕ) (l : List ℕ) → taken r l ≤ daily → dispatched daily 0 (map holder l) ≡ dispatched (daily - taken r l) 0 (map (at_level r) l)
whole_rounds zero daily l h =
    let z : daily - taken 0 l ≡ daily = omega (arith, none_taken l) in
    rw (morning_level l, z) refl
whole_rounds (suc r) daily l h =
    let e : taken (suc r) l ≡ taken r l + above r l = rw (← add-one) (taken_next r l) in
    let u = daily - taken r l in
    let z : u - above r l ≡ daily - taken (suc r) l = omega arith in
    whole_rounds r daily l (omega arith)
    ∙ one_round u (map (at_level r) l)
    ∙ rw (waiting_are r l, whole_round r u l (omega arith), z, add-one) refl

-- a day is its whole rounds, and one more with the units that they leave
pub evening_is : (daily : ℕ) (l : List ℕ) (r rest : ℕ) → AreWhole daily l r rest → dispatched daily 0 (map holder l) ≡ rounded rest (map (at_level r) l)
evening_is daily l r rest w =
    let z : daily - taken r l ≡ rest = omega (arith, w.sum) in
    whole_rounds r daily l (omega (arith, w.sum))
    ∙ rw z (last_round rest (map (at_level r) l) (rw (waiting_are r l) w.last))

-- every day has its whole rounds
pub some_whole : (daily : ℕ) (l : List ℕ) → (r : ℕ) × (rest : ℕ) × AreWhole daily l r rest
some_whole daily l = on daily 0 daily (omega (arith, none_taken l)) (omega arith)
  where
    Some : Type 0
    Some = (r : ℕ) × (rest : ℕ) × AreWhole daily l r rest

    ends : (r rest : ℕ) → taken r l + rest ≡ daily → (0 < above r l → above r l ≤ rest → Some) → Some
    ends r rest e h =
        by_less rest (above r l)
        (λ a. (r, rest, record { sum = e; last = inl a }))
        (λ a. by_less 0 (above r l) (λ b. h b a) (λ b. (r, rest, record { sum = e; last = inr (omega arith) })))

    on : (fuel r rest : ℕ) → taken r l + rest ≡ daily → rest ≤ fuel → Some
    on zero r rest e h = ends r rest e (λ b a. absurd (omega arith))
    on (suc fuel) r rest e h = ends r rest e (λ b a. on fuel (r + 1) (rest - above r l) (omega (arith, taken_next r l)) (omega arith))
