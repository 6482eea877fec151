-- A mask of 32 ones, or of none, takes the lesser. Assumes nothing.
use Rattle.std.proofs.Common.{◌≡◌, refl, ℕ, zero, suc, ◌-◌, ◌%◌, ◌≤◌, ◌<◌, ◌^◌, min, arith}
use lib.Bits.{bit_and, bit_or, and_zero_r, or_zero_l, or_zero_r, and_mask}
use Rattle.coal.proofs.sums.lesser32.Goals as goal

-- a mask k that has 32 ones where y is at most x, and none where x is below y, takes the lesser
takes : (x y k : ℕ) → k ≤ 0xffff_ffff → x < 2 ^ 32 → y < 2 ^ 32 → (k ≡ 0 → x < y) → (0 < k → 0xffff_ffff ≤ k) → (0 < k → y ≤ x)
    → bit_or (bit_and y k) (bit_and x (0xffff_ffff - k)) ≡ min x y
takes x y zero l i j none ones over = rw (and_zero_r y, and_mask x 32, or_zero_l (x % 2 ^ 32)) (omega (arith, none refl))
takes x y (suc k) l i j none ones over =
    let all : suc k ≡ 0xffff_ffff = omega (arith, ones (omega arith)) in
    rw (all, and_mask y 32, and_zero_r x, or_zero_r (y % 2 ^ 32)) (omega (arith, over (omega arith)))

pub returns : goal.returns
returns c =
    takes c.args.x c.args.y _ (omega arith) (omega arith) (omega arith) (λ e. omega arith) (λ e. omega arith) (λ e. omega arith)
