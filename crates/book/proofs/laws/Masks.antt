-- Masks: which are apart, and what is added up over the members of one. By induction on the lists. Assumes nothing.
use Rattle.std.specs.Prelude.{◌≡◌, refl, Bool, true, false, List, [], ◌∷◌, map, ℕ, zero, suc, ◌+◌, ◌-◌, ◌/◌, ◌%◌, ◌^◌, ◌≤◌, ◌<◌, min, max, eqb, length, bit_and, bit_or}
use Rattle.std.proofs.Common.{ap, ap₂, ◌∙◌, arith}
use Rattle.std.proofs.Math.Nat.{zero-max, pow-suc}
use Rattle.std.specs.Int.Bits.{and_step, or_step, and_self, and_zero_r}
use Rattle.std.proofs.lemmas.Nat.{pow_pos, or_lt, le_or_l, le_or_r, and-not}
use Rattle.std.proofs.lemmas.Nat.Bits.{same_from_bits, bit_at_and, bit_at_or}
use Rattle.std.proofs.lemmas.Bool.{eqb-false}
use Rattle.coal.specs.Choice.{pick}
use Rattle.book.specs.Counting.{All, list_if}
use Rattle.book.specs.Masks.{members, added, united}

-- ---- masks that are apart

or_half : (m u : ℕ) → bit_or m u / 2 ≡ bit_or (m / 2) (u / 2)
or_half m u = omega (arith, or_step m u)

or_low : (m u : ℕ) → bit_or m u % 2 ≡ max (m % 2) (u % 2)
or_low m u = omega (arith, or_step m u)

and_or : (g m u : ℕ) → bit_and g (bit_or m u) ≡ bit_or (bit_and g m) (bit_and g u)
and_or g m u = same_from_bits _ _ (λ i. omega (arith, bit_at_and g (bit_or m u) i, bit_at_or m u i, bit_at_or (bit_and g m) (bit_and g u) i, bit_at_and g m i, bit_at_and g u i))

-- apart from two is apart from both joined, and back
pub apart_or : (g m u : ℕ) → bit_and g m ≡ 0 → bit_and g u ≡ 0 → bit_and g (bit_or m u) ≡ 0
apart_or g m u p q = and_or g m u ∙ rw (p, q) refl

pub or_apart : (g m u : ℕ) → bit_and g (bit_or m u) ≡ 0 → (bit_and g m ≡ 0) × (bit_and g u ≡ 0)
or_apart g m u e =
    let x = bit_and g m in
    let y = bit_and g u in
    let o = and_or g m u in
    (omega (arith, le_or_l x y), omega (arith, le_or_r x y))

-- a mask is apart from all the others
pub rest_apart : (n j : ℕ) → j < 2 ^ n → bit_and (2 ^ n - 1 - j) j ≡ 0
rest_apart n j h = omega (arith, and-not n j j h h, and_self j)

-- ---- what is added up over a list

pub all_every : {A : Type 0} (P : A → Type 0) (l : List A) → ((x : A) → P x) → All P l
all_every P [] h = tt
all_every P (x ∷ l) h = (h x, all_every P l h)

abbrev pub over : {A : Type 0} → (A → ℕ) → List A → ℕ
over f l = added (map f l)

module _ {A : Type 0} (f g : A → ℕ) where
  pub over_same : (l : List A) → All (λ x. f x ≡ g x) l → over f l ≡ over g l
  unfolding added
  over_same [] h = refl
  over_same (x ∷ l) h = ap₂ ◌+◌ h.0 (over_same l h.1)

  pub over_plus : (l : List A) → over (λ x. f x + g x) l ≡ over f l + over g l
  unfolding added
  over_plus [] = refl
  over_plus (x ∷ l) = omega (arith, over_plus l)

  pub over_most : (l : List A) → ((x : A) → f x ≤ g x) → over f l ≤ over g l
  unfolding added
  over_most [] h = omega arith
  over_most (x ∷ l) h = omega (arith, h x, over_most l h)

pub over_one : {A : Type 0} (l : List A) → over (λ x. 1) l ≡ length l
unfolding added
over_one [] = refl
over_one (x ∷ l) = omega (arith, over_one l)

-- ---- and over a mask's members

-- u, where the digit is set
abbrev digit : ℕ → ℕ → ℕ
digit d u = pick (eqb d 1) u 0

module _ {A : Type 0} (f : A → ℕ) where
  over_digit : (x : A) (xs : List A) (m : ℕ) → over f (members (x ∷ xs) m) ≡ digit (m % 2) (f x) + over f (members xs (m / 2))
  unfolding members added
  over_digit x xs m = go (eqb (m % 2) 1) (members xs (m / 2))
    where
      go : (t : Bool) (l : List A) → over f (list_if t x l) ≡ pick t (f x) 0 + over f l
      go true l = refl
      go false l = omega arith

  pub over_none : (xs : List A) → over f (members xs 0) ≡ 0
  unfolding members added
  over_none [] = refl
  over_none (x ∷ xs) = over_none xs

  -- two masks that are apart, joined
  pub over_or : (xs : List A) (m g : ℕ) → bit_and m g ≡ 0 → over f (members xs (bit_or m g)) ≡ over f (members xs m) + over f (members xs g)
  unfolding members added
  over_or [] m g e = refl
  over_or (x ∷ xs) m g e =
      let a = and_step m g in
      let ih = over_or xs (m / 2) (g / 2) (omega arith) in
      let d = go (m % 2) (g % 2) (omega arith) (omega arith) (omega arith) in
      over_digit x xs (bit_or m g) ∙ rw (or_half m g, or_low m g) (omega (arith, over_digit x xs m, over_digit x xs g))
    where
      go : (d e : ℕ) → d < 2 → e < 2 → min d e ≡ 0 → digit (max d e) (f x) ≡ digit d (f x) + digit e (f x)
      go zero e h g q = rw (zero-max e) (omega arith)
      go (suc zero) zero h g q = omega arith
      go (suc zero) (suc e) h g q = absurd (omega arith)
      go (suc (suc d)) e h g q = absurd (omega arith)

  -- a mask and all the others
  pub over_rest : (xs : List A) (j : ℕ) → j < 2 ^ length xs → over f (members xs (2 ^ length xs - 1 - j)) + over f (members xs j) ≡ over f xs
  unfolding members added
  over_rest [] j h = refl
  over_rest (x ∷ xs) j h =
      let n = length xs in
      let p = pow-suc 2 n in
      let e : (2 ^ suc n - 1 - j) / 2 ≡ 2 ^ n - 1 - j / 2 = omega arith in
      let d : (2 ^ suc n - 1 - j) % 2 ≡ 1 - j % 2 = omega arith in
      let ih = over_rest xs (j / 2) (omega arith) in
      let q = go (j % 2) (omega arith) in
      rw (over_digit x xs (2 ^ suc n - 1 - j), e, d) (omega (arith, over_digit x xs j))
    where
      go : (d : ℕ) → d < 2 → digit (1 - d) (f x) + digit d (f x) ≡ f x
      go zero h = omega arith
      go (suc zero) h = omega arith
      go (suc (suc d)) h = absurd (omega arith)

-- a mask has members
pub members_some : {A : Type 0} (xs : List A) (m : ℕ) → 0 < m → m < 2 ^ length xs → 0 < length (members xs m)
unfolding members
members_some [] m p h = absurd (omega arith)
members_some {A} (x ∷ xs) m p h = go (eqb (m % 2) 1) refl (members xs (m / 2)) (λ q. members_some xs (m / 2) q (omega (arith, pow-suc 2 (length xs))))
  where
    go : (t : Bool) → eqb (m % 2) 1 ≡ t → (l : List A) → (0 < m / 2 → 0 < length l) → 0 < length (list_if t x l)
    go true e l ih = omega arith
    go false e l ih = let d = eqb-false (m % 2) 1 e in ih (omega arith)

pub members_all : {A : Type 0} (P : A → Type 0) (xs : List A) (m : ℕ) → All P xs → All P (members xs m)
unfolding members
members_all P [] m h = tt
members_all {A} P (x ∷ xs) m h = go (eqb (m % 2) 1) (members xs (m / 2)) (members_all P xs (m / 2) h.1)
  where
    go : (t : Bool) (l : List A) → All P l → All P (list_if t x l)
    go true l g = (h.0, g)
    go false l g = g

pub members_map : {A B : Type 0} (f : A → B) (xs : List A) (m : ℕ) → members (map f xs) m ≡ map f (members xs m)
unfolding members
members_map f [] m = refl
members_map {A} {B} f (x ∷ xs) m = go (eqb (m % 2) 1) (members xs (m / 2)) (members_map f xs (m / 2))
  where
    go : (t : Bool) (l : List A) {k : List B} → k ≡ map f l → list_if t (f x) k ≡ map f (list_if t x l)
    go true l e = ap (f x ∷◌) e
    go false l e = e

-- a mask of some of n accounts, whose members have as much of the one as of the other
pub record Balanced (ks : List ℕ) (f g : ℕ → ℕ) (m : ℕ) : Type 0 where
  pub some : 0 < m
  pub few : m < 2 ^ length ks
  pub even : over f (members ks m) ≡ over g (members ks m)

-- ---- masks joined

pub united_few : (n : ℕ) (ms : List ℕ) → All (λ m. m < 2 ^ n) ms → united ms < 2 ^ n
unfolding united
united_few n [] h = pow_pos n
united_few n (m ∷ ms) h = or_lt n m (united ms) h.0 (united_few n ms h.1)

pub united_apart : (m : ℕ) (ms : List ℕ) → All (λ g. bit_and m g ≡ 0) ms → bit_and m (united ms) ≡ 0
unfolding united
united_apart m [] h = and_zero_r m
united_apart m (g ∷ ms) h = apart_or m g (united ms) h.0 (united_apart m ms h.1)

-- apart from all joined is apart from each
pub apart_united : (m : ℕ) (ms : List ℕ) → bit_and m (united ms) ≡ 0 → All (λ g. bit_and m g ≡ 0) ms
unfolding united
apart_united m [] e = tt
apart_united m (g ∷ ms) e = let p = or_apart m g (united ms) e in (p.0, apart_united m ms p.1)
