-- The accounts of all masks of a list, from the first mask on, and the others. Assumes nothing.
use Rattle.std.specs.Prelude.{◌≡◌, List, [], ◌∷◌, ℕ, ◌-◌, ◌^◌, ◌≤◌, ◌<◌, bit_and, bit_or, fold}
use Rattle.std.proofs.Common.{sym, ◌∙◌, arith}
use Rattle.std.specs.Int.Bits.{or_zero_r, or_zero_l}
use Rattle.std.proofs.Math.Nat.{mod-eq_of_lt}
use Rattle.std.proofs.lemmas.Nat.{and_mask, and-not}
use Rattle.std.proofs.lemmas.Nat.Bits.{same_from_bits, bit_at_or}
use Rattle.book.specs.Masks.{united}
use Rattle.masks.proofs.Testing.{masks_few}

or_assoc : (a b c : ℕ) → bit_or (bit_or a b) c ≡ bit_or a (bit_or b c)
or_assoc a b c = same_from_bits _ _ (λ i. omega (arith, bit_at_or (bit_or a b) c i, bit_at_or a b i, bit_at_or a (bit_or b c) i, bit_at_or b c i))

all_named : (a : ℕ) (ms : List ℕ) → fold (λ used m. bit_or used m) a ms ≡ bit_or a (united ms)
unfolding united
all_named a [] = sym (or_zero_r a)
all_named a (m ∷ ms) = all_named (bit_or a m) ms ∙ or_assoc a m (united ms)

pub fold_united : (ms : List ℕ) → fold (λ used m. bit_or used m) 0 ms ≡ united ms
fold_united ms = all_named 0 ms ∙ or_zero_l (united ms)

-- of n accounts those that a mask does not name
pub others : (n used : ℕ) → n ≤ 10 → used < 2 ^ n → bit_and (65535 - used) (2 ^ n - 1) ≡ 2 ^ n - 1 - used
others n used f h = omega (arith, masks_few n f, and_mask used n, mod-eq_of_lt h, and-not 16 used (2 ^ n - 1))
