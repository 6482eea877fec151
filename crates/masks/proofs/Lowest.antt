-- A mask goes by its lowest account: what it is with it and without. By induction on the lists, and on the digits. Assumes nothing.
use Rattle.std.specs.Prelude.{◌≡◌, refl, List, [], ◌∷◌, ℕ, zero, suc, ◌-◌, ◌*◌, ◌/◌, ◌%◌, ◌^◌, ◌≤◌, ◌<◌, length, get_or, bit_and}
use Rattle.std.proofs.Common.{◌∙◌, arith}
use Rattle.std.proofs.Math.Nat.{pow-suc}
use Rattle.std.proofs.Math.Arith.{bin_ind}
use Rattle.std.specs.Int.Bits.{and_step, and_self}
use Rattle.std.specs.Int.Count.{ones, ones_step, count_trailing_zeros}
use Rattle.book.specs.Masks.{members}
use Rattle.book.proofs.laws.Counting.{by_eq}

-- an even number or an odd one
pub by_parity : {P : Type 0} (m : ℕ) → (m % 2 ≡ 0 → P) → (m % 2 ≡ 1 → P) → P
by_parity m even odd = by_eq (m % 2) 0 even (λ d. odd (omega arith))

-- a mask without its lowest account
abbrev pub without : ℕ → ℕ
without m = bit_and m (m - 1)

without_odd : (m : ℕ) → m % 2 ≡ 1 → without m ≡ m / 2 * 2
without_odd m e =
    let h : (m - 1) / 2 ≡ m / 2 = omega arith in
    let l : (m - 1) % 2 ≡ 0 = omega arith in
    and_step m (m - 1) ∙ rw (h, l, e, and_self (m / 2)) (omega arith)

without_even : (m : ℕ) → 0 < m → m % 2 ≡ 0 → without m ≡ without (m / 2) * 2
without_even m p e =
    let h : (m - 1) / 2 ≡ m / 2 - 1 = omega arith in
    let l : (m - 1) % 2 ≡ 1 = omega arith in
    and_step m (m - 1) ∙ rw (h, l, e) (omega arith)

-- ---- the members

module _ {A : Type 0} (x : A) (xs : List A) (m : ℕ) where
  pub members_odd : m % 2 ≡ 1 → members (x ∷ xs) m ≡ x ∷ members xs (m / 2)
  unfolding members
  members_odd e = rw e refl

  pub members_even : m % 2 ≡ 0 → members (x ∷ xs) m ≡ members xs (m / 2)
  unfolding members
  members_even e = rw e refl

  members_twice : members (x ∷ xs) (m * 2) ≡ members xs m
  unfolding members
  members_twice =
      let h : m * 2 / 2 ≡ m = omega arith in
      let l : m * 2 % 2 ≡ 0 = omega arith in
      rw (h, l) refl

pub members_none : {A : Type 0} (xs : List A) → members xs 0 ≡ []
unfolding members
members_none [] = refl
members_none (x ∷ xs) = members_none xs

pub trailing_odd : (k m : ℕ) → m % 2 ≡ 1 → count_trailing_zeros (suc k) m ≡ 0
unfolding count_trailing_zeros
trailing_odd k m e = rw e refl

pub trailing_even : (k m : ℕ) → m % 2 ≡ 0 → count_trailing_zeros (suc k) m ≡ suc (count_trailing_zeros k (m / 2))
unfolding count_trailing_zeros
trailing_even k m e = rw e refl

-- the lowest is first of a mask's members, and the others are those of the mask without it
pub members_lowest : {A : Type 0} (d : A) (xs : List A) (k m : ℕ) → length xs ≤ k → 0 < m → m < 2 ^ length xs
    → members xs m ≡ get_or xs (count_trailing_zeros k m) d ∷ members xs (without m)
members_lowest d [] k m f p h = absurd (omega arith)
members_lowest d (x ∷ xs) zero m f p h = absurd (omega arith)
members_lowest d (x ∷ xs) (suc k) m f p h =
    by_parity m
    (λ e. rw (trailing_even k m e, without_even m p e, members_even x xs m e, members_twice x xs (without (m / 2)))
    (members_lowest d xs k (m / 2) (omega arith) (omega arith) (omega (arith, pow-suc 2 (length xs)))))
    (λ e. rw (trailing_odd k m e, without_odd m e, members_odd x xs m e, members_twice x xs (m / 2)) refl)

-- it is one of n accounts, where the mask is one of n accounts
pub lowest_there : (n k m : ℕ) → n ≤ k → 0 < m → m < 2 ^ n → count_trailing_zeros k m < n
lowest_there zero k m f p h = absurd (omega arith)
lowest_there (suc n) zero m f p h = absurd (omega arith)
lowest_there (suc n) (suc k) m f p h =
    by_parity m
    (λ e. rw (trailing_even k m e) (omega (arith, lowest_there n k (m / 2) (omega arith) (omega arith) (omega (arith, pow-suc 2 n)))))
    (λ e. rw (trailing_odd k m e) (omega arith))

-- the count of ones is one less without it
pub ones_without : (m : ℕ) → 0 < m → ones m ≡ suc (ones (without m))
ones_without = bin_ind (λ m. 0 < m → ones m ≡ suc (ones (without m))) (λ p. absurd (omega arith)) step
  where
    twice : (w : ℕ) → ones (w * 2) ≡ ones w
    twice w =
        let h : w * 2 / 2 ≡ w = omega arith in
        let l : w * 2 % 2 ≡ 0 = omega arith in
        ones_step (w * 2) ∙ rw (h, l) (omega arith)

    step : (m : ℕ) → (0 < m / 2 → ones (m / 2) ≡ suc (ones (without (m / 2)))) → 0 < m → ones m ≡ suc (ones (without m))
    step m ih p =
        by_parity m
        (λ e. rw (without_even m p e, twice (without (m / 2))) (omega (arith, ones_step m, ih (omega arith))))
        (λ e. rw (without_odd m e, twice (m / 2)) (omega (arith, ones_step m)))
