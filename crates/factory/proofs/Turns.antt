-- How often code looks at the holders for whole rounds: each turn leaves fewer, and there are no more than holders. Assumes nothing.
use Rattle.std.specs.Prelude.{◌≡◌, List, [], ◌∷◌, ℕ, zero, suc, ◌+◌, ◌-◌, ◌*◌, ◌/◌, ◌≤◌, ◌<◌, min, length, get_or}
use Rattle.std.proofs.Common.{sym, ap, arith, le-ltb, lt-ltb}
use Rattle.std.proofs.Math.Nat.{lt-div-mul-add}
use mathlib.Core.Logic.{⊎_elim}
use Rattle.factory.specs.Rounds.{above, OneHad, Waits, turns_left}
use Rattle.factory.proofs.Tests.{by_less}
use Rattle.factory.proofs.laws.Levels.{none_above, above_more, above_same}

-- more rounds leave no more who wait
above_less : (r m : ℕ) (l : List ℕ) → r ≤ m → above m l ≤ above r l
above_less r m [] h = omega (arith, none_above r, none_above m)
above_less r m (x ∷ l) h =
    by_less r x
    (λ a. by_less m x (λ b. omega (arith, above_less r m l h, above_more r x l a, above_more m x l b)) (λ b. omega (arith, above_less r m l h, above_more r x l a, above_same m x l b)))
    (λ a. omega (arith, above_less r m l h, above_same r x l a, above_same m x l (omega arith)))

-- and fewer, where one is served in them
above_fewer : (r m : ℕ) (l : List ℕ) (k : ℕ) → k < length l → r < get_or l k 0 → get_or l k 0 ≤ m → above m l < above r l
above_fewer r m [] k h a b = absurd (omega arith)
above_fewer r m (x ∷ l) zero h a b = omega (arith, above_less r m l (omega arith), above_more r x l a, above_same m x l b)
above_fewer r m (x ∷ l) (suc k) h a b =
    let f = above_fewer r m l k (omega arith) a b in
    by_less r x
    (λ c. by_less m x (λ d. omega (arith, f, above_more r x l c, above_more m x l d)) (λ d. omega (arith, f, above_more r x l c, above_same m x l d)))
    (λ c. omega (arith, f, above_same r x l c, above_same m x l (omega arith)))

-- as many, where none is
above_until : (r m : ℕ) (l : List ℕ) → r ≤ m → ((k : ℕ) → k < length l → r < get_or l k 0 → m < get_or l k 0) → above m l ≡ above r l
above_until r m [] g h = omega (arith, none_above r, none_above m)
above_until r m (x ∷ l) g h =
    let f = above_until r m l g (λ k a b. h (suc k) (omega arith) b) in
    by_less r x
    (λ c. omega (arith, f, above_more r x l c, above_more m x l (h 0 (omega arith) c)))
    (λ c. omega (arith, f, above_same r x l c, above_same m x l (omega arith)))

above_few : (r : ℕ) (l : List ℕ) → above r l ≤ length l
above_few r [] = omega (arith, none_above r)
above_few r (x ∷ l) = by_less r x (λ h. omega (arith, above_few r l, above_more r x l h)) (λ h. omega (arith, above_few r l, above_same r x l h))

turns_most : (r rest : ℕ) (l : List ℕ) → turns_left r rest l ≤ above r l
turns_most r rest l = by_less rest (above r l) (λ h. rw (lt-ltb _ _ h) (omega arith)) (λ h. rw (le-ltb _ _ h) (omega arith))

-- each turn leaves fewer
pub turns_fewer : (r : ℕ) (l : List ℕ) (count least rest s : ℕ) → Waits r l count least → (count ≡ 0 → ⊥) → count ≤ rest → s ≡ min (least - r) (rest / count)
    → turns_left (r + s) (rest - s * count) l < turns_left r rest l
turns_fewer r l count least rest s w n h q =
    let b : turns_left r rest l ≡ count = rw (le-ltb _ _ (rw w.counted at h)) (sym w.counted) in
    ⊎_elim
    (λ (z : count ≡ 0). absurd (n z))
    (λ (g : OneHad r (length l) l least).
    by_less (rest / count) (least - r)
    (λ c.
    let e : s ≡ rest / count = omega arith in
    let d : rest < rest / count * count + count = lt-div-mul-add (omega arith) in
    let u = above_until r (r + s) l (omega arith) (λ k i a. omega (arith, w.had k i a)) in
    let m : s * count ≡ rest / count * count = ap (λ x. x * count) e in
    let z : rest - s * count < above (r + s) l = omega (arith, u, w.counted) in
    rw (b, lt-ltb _ _ z) (omega arith))
    (λ c.
    let e : r + s ≡ least = omega (arith, g.2, g.3) in
    let f : above (r + s) l < above r l = rw e (above_fewer r least l g.0 g.1 g.2 (omega (arith, g.3))) in
    rw b (omega (arith, turns_most (r + s) (rest - s * count) l, f, w.counted))))
    w.one

-- and there are no more than holders
pub turns_few : (r rest : ℕ) (l : List ℕ) → turns_left r rest l ≤ length l
turns_few r rest l = omega (arith, turns_most r rest l, above_few r l)
