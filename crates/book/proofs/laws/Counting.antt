-- Laws of choices, of turns, sums and counts over numbers, and of a table in which one row is stored or one is added: each by induction on the
-- count or on the list. Assumes nothing.
use Rattle.std.specs.Prelude.{◌≡◌, refl, ◌≢◌, Bool, true, false, ◌&&◌, List, [], ◌∷◌, ℕ, zero, suc, ◌+◌, ◌-◌, ◌*◌, ◌≤◌, ◌<◌, eqb, ℤ, pos, ◌+ℤ◌, length, get_or, set}
use Rattle.std.proofs.Common.{sym, ap, ap₂, ◌∙◌, subst, zero-add, add-zero, add-one, arith, get_or-set_same, get_or-set_other, eqb-true, eq-eqb, ne_eqb}
use Rattle.std.proofs.Math.IntN.{+ℤ_idr, +ℤ_idl, +ℤ_assoc, +ℤ_comm}
use Rattle.std.proofs.lemmas.Bool.{eqb-false}
use Rattle.coal.specs.Choice.{pick}
use Rattle.whole.specs.Ring.{ring}
use Rattle.book.specs.Counting.{iter, tally, sum, total, one_if}

-- ---- choices

-- a choice, both ways
pub by_pick : {A : Type 0} (P : A → Type 0) (t : Bool) {x y : A} → (t ≡ true → P x) → (t ≡ false → P y) → P (pick t x y)
by_pick P true h g = h refl
by_pick P false h g = g refl

pub and_left : (s t : Bool) → s && t ≡ true → s ≡ true
and_left true t e = refl
and_left false t e = e

pub and_right : (s t : Bool) → s && t ≡ true → t ≡ true
and_right true t e = e
and_right false t e = cc

-- whatever is wanted, where the facts in hand contradict each other: `impossible (cc)`
pub impossible : {A : Type 0} → ◌≡◌ {A = ℕ} 0 1 → A
impossible e = absurd (omega arith)

-- equal numbers or not
pub by_eq : {P : Type 0} (j k : ℕ) → (j ≡ k → P) → (j ≢ k → P) → P
by_eq {P} j k h g = go (eqb j k) refl
  where
    go : (t : Bool) → eqb j k ≡ t → P
    go true e = h (eqb-true j k e)
    go false e = g (eqb-false j k e)

-- ---- turns

-- what a turn keeps, by its number
pub iter_keeps : {S : Type 0} (P : ℕ → S → Type 0) (f : ℕ → S → S) (m : ℕ) → ((i : ℕ) (s : S) → i < m → P i s → P (i + 1) (f i s))
    → (n i : ℕ) (s : S) → i + n ≡ m → P i s → P m (iter n i f s)
unfolding iter
iter_keeps P f m h zero i s e p = let q : i ≡ m = omega arith in subst (λ (k : ℕ). P k s) q p
iter_keeps P f m h (suc n) i s e p = iter_keeps P f m h n (i + 1) (f i s) (omega arith) (h i s (omega arith) p)

-- ---- sums

pub sum_same : (f g : ℕ → ℕ) (n i : ℕ) → ((k : ℕ) → i ≤ k → k < i + n → f k ≡ g k) → sum n i f ≡ sum n i g
unfolding sum
sum_same f g zero i h = refl
sum_same f g (suc n) i h = omega (arith, h i (omega arith) (omega arith), sum_same f g n (i + 1) (λ k a b. h k (omega arith) (omega arith)))

pub sum_none : (f : ℕ → ℕ) (n i : ℕ) → ((k : ℕ) → i ≤ k → k < i + n → f k ≡ 0) → sum n i f ≡ 0
unfolding sum
sum_none f zero i h = refl
sum_none f (suc n) i h = omega (arith, h i (omega arith) (omega arith), sum_none f n (i + 1) (λ k a b. h k (omega arith) (omega arith)))

-- a sum of nothing has nothing of each
pub sum_zero : (f : ℕ → ℕ) (n i : ℕ) → sum n i f ≡ 0 → (k : ℕ) → i ≤ k → k < i + n → f k ≡ 0
unfolding sum
sum_zero f zero i e k a b = absurd (omega arith)
sum_zero f (suc n) i e k a b = by_eq k i (λ q. rw q (omega arith)) (λ q. sum_zero f n (i + 1) (omega arith) k (omega arith) (omega arith))

-- terms of at most m
pub sum_most : (f : ℕ → ℕ) (m n i : ℕ) → ((k : ℕ) → f k ≤ m) → sum n i f ≤ m * n
unfolding sum
sum_most f m zero i h = omega arith
sum_most f m (suc n) i h = omega (arith, h i, sum_most f m n (i + 1) h)

sum_suc : (f : ℕ → ℕ) (n i : ℕ) → sum (suc n) i f ≡ sum n i f + f (i + n)
unfolding sum
sum_suc f zero i = rw (add-zero i) (omega arith)
sum_suc f (suc n) i = let e : i + 1 + n ≡ i + suc n = omega arith in rw (sum_suc f n (i + 1), e) (omega arith)

-- one term more
sum_last : (f : ℕ → ℕ) (n : ℕ) → sum (n + 1) 0 f ≡ sum n 0 f + f n
sum_last f n = rw add-one (sum_suc f n 0 ∙ rw zero-add)

-- one term changes
pub sum_change : (f g : ℕ → ℕ) (n i k : ℕ) → i ≤ k → k < i + n → ((j : ℕ) → j ≢ k → f j ≡ g j) → sum n i f + g k ≡ sum n i g + f k
unfolding sum
sum_change f g zero i k a b h = absurd (omega arith)
sum_change f g (suc n) i k a b h =
    let ih = sum_change f g n (i + 1) k in
    by_eq k i
    (λ e. let s = sum_same f g n (i + 1) (λ j x y. h j (omega arith)) in rw e (omega arith))
    (λ e. omega (arith, ih (omega arith) (omega arith) h, h i (λ q. e (sym q))))

-- the terms of one sum are those of two others, added
pub sum_plus : (f g h : ℕ → ℕ) (n i : ℕ) → ((k : ℕ) → i ≤ k → k < i + n → f k ≡ g k + h k) → sum n i f ≡ sum n i g + sum n i h
unfolding sum
sum_plus f g h zero i e = refl
sum_plus f g h (suc n) i e = omega (arith, e i (omega arith) (omega arith), sum_plus f g h n (i + 1) (λ k a b. e k (omega arith) (omega arith)))

-- ---- counts

pub tally_sum : (p : ℕ → Bool) (n i : ℕ) → tally n i p ≡ sum n i (λ k. one_if (p k))
unfolding sum tally
tally_sum p zero i = refl
tally_sum p (suc n) i = omega (arith, tally_sum p n (i + 1))

pub one_most : (t : Bool) → one_if t ≤ 1
one_most true = omega arith
one_most false = omega arith

pub tally_few : (p : ℕ → Bool) (n : ℕ) → tally n 0 p ≤ n
tally_few p n = omega (arith, tally_sum p n 0, sum_most (λ k. one_if (p k)) 1 n 0 (λ k. one_most (p k)))

pub tally_last : (p : ℕ → Bool) (n : ℕ) → tally (n + 1) 0 p ≡ tally n 0 p + one_if (p n)
tally_last p n = omega (arith, tally_sum p (n + 1) 0, tally_sum p n 0, sum_last (λ k. one_if (p k)) n)

pub tally_zero : (p : ℕ → Bool) → tally 0 0 p ≡ 0
unfolding tally
tally_zero p = refl

-- two tests that exclude each other, and a third that holds where one of them does
pub tally_two : (p q r : ℕ → Bool) (n i : ℕ) → ((k : ℕ) → i ≤ k → k < i + n → one_if (p k) + one_if (q k) ≤ one_if (r k)) → tally n i p + tally n i q ≤ tally n i r
unfolding tally
tally_two p q r zero i h = omega arith
tally_two p q r (suc n) i h = omega (arith, h i (omega arith) (omega arith), tally_two p q r n (i + 1) (λ k a b. h k (omega arith) (omega arith)))

pub tally_most : (p q : ℕ → Bool) (n i : ℕ) → ((k : ℕ) → i ≤ k → k < i + n → one_if (p k) ≤ one_if (q k)) → tally n i p ≤ tally n i q
tally_most p q n i h = omega (arith, tally_two p (λ k. false) q n i (λ k a b. omega (arith, h k a b)))

-- a test that holds only where one of two others does
pub tally_either : (p q r : ℕ → Bool) (n i : ℕ) → ((k : ℕ) → i ≤ k → k < i + n → one_if (r k) ≤ one_if (p k) + one_if (q k)) → tally n i r ≤ tally n i p + tally n i q
unfolding tally
tally_either p q r zero i h = omega arith
tally_either p q r (suc n) i h = omega (arith, h i (omega arith) (omega arith), tally_either p q r n (i + 1) (λ k a b. h k (omega arith) (omega arith)))

pub tally_same : (p q : ℕ → Bool) (n i : ℕ) → ((k : ℕ) → i ≤ k → k < i + n → p k ≡ q k) → tally n i p ≡ tally n i q
tally_same p q n i h = tally_sum p n i ∙ sum_same _ _ n i (λ k a b. ap one_if (h k a b)) ∙ sym (tally_sum q n i)

pub tally_none : (p : ℕ → Bool) (n i : ℕ) → ((k : ℕ) → i ≤ k → k < i + n → p k ≡ false) → tally n i p ≡ 0
tally_none p n i h = tally_sum p n i ∙ sum_none _ n i (λ k a b. ap one_if (h k a b))

-- one that is met is counted
pub tally_some : (p : ℕ → Bool) (n i k : ℕ) → i ≤ k → k < i + n → p k ≡ true → 0 < tally n i p
unfolding tally
tally_some p zero i k a b e = absurd (omega arith)
tally_some p (suc n) i k a b e =
    by_eq k i
    (λ q. let one : one_if (p i) ≡ 1 = ap one_if (ap p (sym q) ∙ e) in omega (arith, one))
    (λ q. omega (arith, tally_some p n (i + 1) k (omega arith) (omega arith) e))

-- a test that holds where one of two others does, which exclude each other
pub tally_plus : (p q r : ℕ → Bool) (n i : ℕ) → ((k : ℕ) → i ≤ k → k < i + n → one_if (p k) ≡ one_if (q k) + one_if (r k)) → tally n i p ≡ tally n i q + tally n i r
tally_plus p q r n i h = omega (arith, tally_sum p n i, tally_sum q n i, tally_sum r n i, sum_plus (λ k. one_if (p k)) (λ k. one_if (q k)) (λ k. one_if (r k)) n i h)

-- one number is met once
pub tally_one : (a n i : ℕ) → tally n i (λ k. eqb a k) ≤ 1
unfolding tally
tally_one a zero i = omega arith
tally_one a (suc n) i =
    let r = tally_one a n (i + 1) in
    by_eq a i
    (λ e. omega (arith, one_most (eqb a i), tally_none (λ k. eqb a k) n (i + 1) (λ k x y. ne_eqb a k (λ q. absurd (omega arith)))))
    (λ e. rw (ne_eqb a i e) (omega arith))

-- ---- one number

-- u at the number i, else nothing
abbrev pub only : ℕ → ℕ → ℕ → ℕ
only i u k = pick (eqb i k) u 0

pub only_here : (i u : ℕ) → only i u i ≡ u
only_here i u = rw (eq-eqb i i refl)

pub only_else : (i u k : ℕ) → k ≢ i → only i u k ≡ 0
only_else i u k d = rw (ne_eqb i k (λ e. d (sym e)))

pub only_split : (i k u v : ℕ) → u ≤ v → only i (v - u) k + only i u k ≡ only i v k
only_split i k u v h = go (eqb i k)
  where
    go : (t : Bool) → pick t (v - u) 0 + pick t u 0 ≡ pick t v 0
    go true = omega arith
    go false = omega arith

pub only_plus : (i u v k : ℕ) → only i (u + v) k ≡ only i u k + only i v k
only_plus i u v k = go (eqb i k)
  where
    go : (t : Bool) → pick t (u + v) 0 ≡ pick t u 0 + pick t v 0
    go true = refl
    go false = refl

pub only_most : (i u k : ℕ) → only i u k ≤ u
only_most i u k = by_pick (λ (x : ℕ). x ≤ u) (eqb i k) (λ e. omega arith) (λ e. omega arith)

-- ---- signed sums

pub total_same : (f g : ℕ → ℤ) (n i : ℕ) → ((j : ℕ) → i ≤ j → j < i + n → f j ≡ g j) → total n i f ≡ total n i g
unfolding total
total_same f g zero i h = refl
total_same f g (suc n) i h = ap₂ ◌+ℤ◌ (h i (omega arith) (omega arith)) (total_same f g n (i + 1) (λ j p q. h j (omega arith) (omega arith)))

total_suc : (f : ℕ → ℤ) (n i : ℕ) → total (suc n) i f ≡ total n i f +ℤ f (i + n)
unfolding total
total_suc f zero i = rw (add-zero i) (+ℤ_comm (f i) (pos 0))
total_suc f (suc n) i = let e : i + 1 + n ≡ i + suc n = omega arith in rw (total_suc f n (i + 1), e) (sym (+ℤ_assoc (f i) (total n (i + 1) f) (f (i + suc n))))

pub total_last : (f : ℕ → ℤ) (n : ℕ) → total (n + 1) 0 f ≡ total n 0 f +ℤ f n
total_last f n = rw add-one (total_suc f n 0 ∙ rw zero-add)

pub total_plus : (f g : ℕ → ℤ) (n i : ℕ) → total n i (λ k. f k +ℤ g k) ≡ total n i f +ℤ total n i g
unfolding total
total_plus f g zero i = refl
total_plus f g (suc n) i = rw (total_plus f g n (i + 1)) (simp ring)

pub total_none : (f : ℕ → ℤ) (n i : ℕ) → ((j : ℕ) → i ≤ j → j < i + n → f j ≡ pos 0) → total n i f ≡ pos 0
unfolding total
total_none f zero i h = refl
total_none f (suc n) i h = rw (h i (omega arith) (omega arith), total_none f n (i + 1) (λ j p q. h j (omega arith) (omega arith))) refl

-- z at the number a, else nothing
abbrev pub at : ℕ → ℤ → ℕ → ℤ
at a z k = pick (eqb a k) z (pos 0)

pub at_other : (a k : ℕ) (z : ℤ) → a ≢ k → at a z k ≡ pos 0
at_other a k z d = rw (ne_eqb a k d)

-- the sum of what stands at one number
pub total_at : (n i a : ℕ) (z : ℤ) → i ≤ a → a < i + n → total n i (at a z) ≡ z
unfolding total
total_at zero i a z p q = absurd (omega arith)
total_at (suc n) i a z p q =
    let ih = total_at n (i + 1) a z in
    by_eq a i
    (λ e. rw (eq-eqb a i e, total_none (at a z) n (i + 1) (λ j u v. at_other a j z (λ w. absurd (omega arith)))) (+ℤ_idr z))
    (λ e. rw (ne_eqb a i e, ih (omega arith) (omega arith)) (+ℤ_idl z))

-- ---- tables

-- a row after a store: the stored one, or the one that was there
pub at_set : {A : Type 0} (P : A → Type 0) (l : List A) (k j : ℕ) (a d : A) → (j ≡ k → P a) → P (get_or l j d) → P (get_or (set l k a) j d)
at_set P [] k j a d h g = g
at_set P (x ∷ l) zero zero a d h g = h refl
at_set P (x ∷ l) zero (suc j) a d h g = g
at_set P (x ∷ l) (suc k) zero a d h g = g
at_set P (x ∷ l) (suc k) (suc j) a d h g = at_set P l k j a d (λ e. h (ap suc e)) g

-- all rows, where one is stored
pub rows_set : {A : Type 0} (P : A → Type 0) (l : List A) (n k : ℕ) (a d : A)
    → ((j : ℕ) → j < n → P (get_or l j d)) → P a → (j : ℕ) → j < n → P (get_or (set l k a) j d)
rows_set P l n k a d h p j i = at_set P l k j a d (λ e. p) (h j i)

-- all rows, where one is added
pub rows_add : {A : Type 0} (P : A → Type 0) (l : List A) (n : ℕ) (a d : A) → n < length l
    → ((j : ℕ) → j < n → P (get_or l j d)) → P a → (j : ℕ) → j < n + 1 → P (get_or (set l n a) j d)
rows_add P l n a d s h p j i =
    by_eq j n (λ e. rw e (rw (get_or-set_same l n a d s) p)) (λ e. rw (get_or-set_other l n j a d e) (h j (omega arith)))

-- a sum over the rows, where one is stored
pub sum_set : {A : Type 0} (f : A → ℕ) (l : List A) (n k : ℕ) (a d : A) → k < n → k < length l
    → sum n 0 (λ j. f (get_or (set l k a) j d)) + f (get_or l k d) ≡ sum n 0 (λ j. f (get_or l j d)) + f a
sum_set f l n k a d h s =
    let e = sum_change (λ j. f (get_or (set l k a) j d)) (λ j. f (get_or l j d)) n 0 k (omega arith) (omega arith) (λ j q. ap f (get_or-set_other l k j a d q)) in
    omega (arith, ap f (get_or-set_same l k a d s))

-- where one is added
pub sum_add : {A : Type 0} (f : A → ℕ) (l : List A) (n : ℕ) (a d : A) → n < length l
    → sum (n + 1) 0 (λ j. f (get_or (set l n a) j d)) ≡ sum n 0 (λ j. f (get_or l j d)) + f a
sum_add f l n a d s =
    let e = sum_last (λ j. f (get_or (set l n a) j d)) n in
    let r = sum_same (λ j. f (get_or (set l n a) j d)) (λ j. f (get_or l j d)) n 0 (λ k x y. ap f (get_or-set_other l n k a d (omega arith))) in
    omega (arith, ap f (get_or-set_same l n a d s))
