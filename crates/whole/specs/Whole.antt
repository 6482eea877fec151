-- A whole number as a plus part less a minus part, so that `omega` proves what is linear in ℤ; magnitudes; and what 64 bit signed sums need.
-- Assumes nothing.
use Rattle.std.specs.Prelude.{◌≡◌, refl, Bool, true, false, cond, not, ℕ, zero, suc, ◌+◌, ◌-◌, ◌≤◌, T, ltb, ℤ, pos, negsuc, neg_ℤ, nat_abs, ◌+ℤ◌, ◌-ℤ◌}
use Rattle.std.proofs.Common.{ap, arith, ltb→lt, nltb→le, ltb-false, SFits, to_z}
use Rattle.std.proofs.Math.IntN.{sub_ℕ}
use Rattle.std.specs.Int.Signed.{mag, lt_z}
use Rattle.std.specs.Int.{w64}
use Rattle.std.proofs.Math.Facts.{to_z_pos}

abbrev pub up : ℤ → ℕ
up (pos n) = n
up (negsuc n) = 0

abbrev pub dn : ℤ → ℕ
dn (pos n) = 0
dn (negsuc n) = suc n

cond_ind : {A : Type 0} (c : Bool) (x y : A) (P : A → Type 0) → (T c → P x) → (T (not c) → P y) → P (cond c x y)
cond_ind true x y P f g = f tt
cond_ind false x y P f g = g tt

up_sub : (a b : ℕ) → up (sub_ℕ a b) ≡ a - b
up_sub a b = cond_ind (ltb a b) (negsuc (b - suc a)) (pos (a - b)) (λ z. up z ≡ a - b)
    (λ t. omega (arith, ltb→lt a b t)) (λ t. refl)

dn_sub : (a b : ℕ) → dn (sub_ℕ a b) ≡ b - a
dn_sub a b = cond_ind (ltb a b) (negsuc (b - suc a)) (pos (a - b)) (λ z. dn z ≡ b - a)
    (λ t. omega (arith, ltb→lt a b t)) (λ t. omega (arith, nltb→le a b t))

pub up_add : (x y : ℤ) → up (x +ℤ y) ≡ (up x + up y) - (dn x + dn y)
up_add (pos a) (pos b) = omega arith
up_add (pos a) (negsuc b) = omega (arith, up_sub a (suc b))
up_add (negsuc a) (pos b) = omega (arith, up_sub b (suc a))
up_add (negsuc a) (negsuc b) = omega arith

pub dn_add : (x y : ℤ) → dn (x +ℤ y) ≡ (dn x + dn y) - (up x + up y)
dn_add (pos a) (pos b) = omega arith
dn_add (pos a) (negsuc b) = omega (arith, dn_sub a (suc b))
dn_add (negsuc a) (pos b) = omega (arith, dn_sub b (suc a))
dn_add (negsuc a) (negsuc b) = omega arith

pub up_neg : (x : ℤ) → up (neg_ℤ x) ≡ dn x
up_neg (pos zero) = refl
up_neg (pos (suc n)) = refl
up_neg (negsuc n) = refl

pub dn_neg : (x : ℤ) → dn (neg_ℤ x) ≡ up x
dn_neg (pos zero) = refl
dn_neg (pos (suc n)) = refl
dn_neg (negsuc n) = refl

pub natAbs_is : (x : ℤ) → nat_abs x ≡ up x + dn x
natAbs_is (pos n) = omega arith
natAbs_is (negsuc n) = omega arith

pub mag_le : (x : ℤ) → mag x ≤ up x + dn x
mag_le (pos n) = omega arith
mag_le (negsuc n) = omega arith

-- two numbers are equal where their parts balance
pub same : (x y : ℤ) → up x + dn y ≡ up y + dn x → x ≡ y
same (pos a) (pos b) h = ap pos (omega arith)
same (pos a) (negsuc b) h = absurd (omega arith)
same (negsuc a) (pos b) h = absurd (omega arith)
same (negsuc a) (negsuc b) h = ap negsuc (omega arith)

-- `z` is `p` less `n`
pub record Net (z : ℤ) (p n : ℕ) : Type 0 where
  pub net : up z + n ≡ p + dn z

pub net_of : (z : ℤ) → Net z (up z) (dn z)
net_of z = record { net = refl }

pub net_pos : (k : ℕ) → Net (pos k) k 0
net_pos k = record { net = refl }

pub net_neg : {z : ℤ} {p n : ℕ} → Net z p n → Net (neg_ℤ z) n p
net_neg {z} h = record { net = simp (up_neg, dn_neg) (omega arith) }

pub net_add : {x y : ℤ} {p n q m : ℕ} → Net x p n → Net y q m → Net (x +ℤ y) (p + q) (n + m)
net_add {x} {y} h k = record { net = omega (arith, up_add x y, dn_add x y) }

pub net_same : {x y : ℤ} {p n q m : ℕ} → Net x p n → Net y q m → p + m ≡ q + n → x ≡ y
net_same {x} {y} h k e = same x y (omega arith)

-- ---- magnitudes and differences

-- a test as a fact
below_false : (z : ℤ) (v : ℕ) → lt_z z (pos v) ≡ false → v + dn z ≤ up z
below_false (pos n) v e = omega (arith, ltb-false n v e)
below_false (negsuc n) v e = let z : ◌≡◌ {A = ℕ} 0 1 = cc in absurd (omega arith)

-- who is not below what they pay: the magnitude does not grow
pub natAbs_paid : (z : ℤ) (x : ℕ) → lt_z z (pos x) ≡ false → nat_abs (z -ℤ pos x) ≤ nat_abs z
natAbs_paid z x e = omega (arith, below_false z x e, natAbs_is (z -ℤ pos x), natAbs_is z, up_add z (neg_ℤ (pos x)), dn_add z (neg_ℤ (pos x)), up_neg (pos x), dn_neg (pos x))

-- a natural difference
pub pos_minus : (h x : ℕ) → x ≤ h → pos (h - x) ≡ pos h -ℤ pos x
pos_minus h x e = net_same (net_pos (h - x)) (net_add (net_pos h) (net_neg (net_pos x))) (omega arith)

-- the magnitude of a sum
pub natAbs_sum : (y z : ℤ) → nat_abs (y +ℤ z) ≤ nat_abs y + nat_abs z
natAbs_sum y z = omega (arith, natAbs_is (y +ℤ z), natAbs_is y, natAbs_is z, up_add y z, dn_add y z)

pub natAbs_neg : (z : ℤ) → nat_abs (neg_ℤ z) ≡ nat_abs z
natAbs_neg z = omega (arith, natAbs_is (neg_ℤ z), natAbs_is z, up_neg z, dn_neg z)

-- ---- what code with 64 bit signed sums needs

-- from bounds on its terms, a sum fits
pub sum_fits : (z : ℤ) (x : ℕ) → nat_abs z ≤ 2_000_000_000_000_000_000 → x ≤ 1_000_000_000_000_000 → SFits w64 (z +ℤ pos x)
sum_fits z x h k = record { sfits = omega (arith, mag_le (z +ℤ pos x), up_add z (pos x), dn_add z (pos x), natAbs_is z) }

pub less_fits : (z : ℤ) (x : ℕ) → nat_abs z ≤ 2_000_000_000_000_000_000 → x ≤ 1_000_000_000_000_000 → SFits w64 (z -ℤ pos x)
less_fits z x h k = record { sfits = omega (arith, mag_le (z -ℤ pos x), up_add z (neg_ℤ (pos x)), dn_add z (neg_ℤ (pos x)), up_neg (pos x), dn_neg (pos x), natAbs_is z) }

-- an unsigned number that is read as a signed one
pub as_signed : (x : ℕ) → x ≤ 1_000_000_000_000_000_000 → to_z w64 x ≡ pos x
as_signed x h = to_z_pos w64 (omega arith)

-- the same by the bound that the sums ask for, as a search finds it
pub amount_signed : (x : ℕ) → x ≤ 1_000_000_000_000_000 → to_z w64 x ≡ pos x
amount_signed x h = as_signed x (omega arith)

pub ruleset cash_needs = (sum_fits, less_fits, as_signed, amount_signed)
