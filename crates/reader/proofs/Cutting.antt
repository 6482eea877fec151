-- A text cut into lines: where a line ends, and the first line of a text. Assumes nothing.
use Prim.Native.Nat.{ℕ, ◌+◌, ◌-◌, ◌≤◌, ◌<◌}
use native.Mathlib.Omega.{arith}
use native.Mathlib.Numerals.{add-one}
use mathlib.Core.Path.{◌≡◌, refl, sym, ap}
use mathlib.Core.Bool.{Bool, true, false, cond}
use mathlib.Core.List.{List, [], ◌∷◌}
use lib.Dec.{eqb, ltb}
use lib.ListN.{length, take, drop}
use Rattle.std.proofs.Common.{length-drop}
use Rattle.std.proofs.Math.Seq.{take-length}
use Rattle.std.specs.Prelude.{Some, None}
use Rattle.std.specs.List.{position, position_or_len}
use Rattle.reader.specs.Lines.{lines, later, line_length}

-- the length of the first line, by the place of its newline
newline : ℕ → Bool
newline b = eqb b 10

length_prefix : (s : List ℕ) → line_length s ≡ cond (ltb (position_or_len newline s) (length s)) (position_or_len newline s + 1) (length s)
unfolding line_length newline
length_prefix [] = refl
length_prefix (b ∷ s) = grind (arith, length_prefix s)

pub length_found : (s : List ℕ) (n : ℕ) → Some n ≡ position (λ b. eqb b 10) s → n + 1 ≡ line_length s
unfolding newline
length_found s n e = grind (arith, length_prefix s)

pub length_whole : (s : List ℕ) → None ≡ position (λ b. eqb b 10) s → length s ≡ line_length s
unfolding newline
length_whole s e = grind (arith, length_prefix s)

-- a text that is not empty: its first line has a byte at least and no more than the text, and the text is that line and the others
pub record Cut (s : List ℕ) : Type 0 where
  pub some : 1 ≤ line_length s
  pub within : line_length s ≤ length s
  pub first : lines s ≡ take (line_length s) s ∷ lines (drop (line_length s) s)

cut : (b : ℕ) (s : List ℕ) (t : Bool) → eqb b 10 ≡ t → Cut (b ∷ s)
unfolding lines line_length
cut b [] true e = record { some = rw e (omega arith); within = rw e (omega arith); first = rw e }
cut b [] false e = record { some = rw e (omega arith); within = rw e (omega arith); first = rw e }
cut b (d ∷ s) true e = record { some = rw e (omega arith); within = rw e (omega arith); first = rw e }
cut b (d ∷ s) false e = let c = cut d s (eqb d 10) refl in
    record { some = rw e (omega arith); within = rw e (omega (arith, c.within)); first = rw (e, c.first, add-one (line_length (d ∷ s))) }

pub cut_some : (s : List ℕ) → 0 < length s → Cut s
cut_some [] h = absurd (omega arith)
cut_some (b ∷ s) h = cut b s (eqb b 10) refl

-- what is left after the first line has the later ones
pub first_later : (s : List ℕ) → lines (drop (line_length s) s) ≡ later (lines s)
unfolding lines line_length
first_later [] = refl
first_later (x ∷ s) = sym (ap later (cut_some (x ∷ s) (omega arith)).first)

pub rest_whole : (s : List ℕ) {n : ℕ} → n ≡ line_length s → take (length s - n) (drop n s) ≡ drop (line_length s) s
rest_whole s {n} e = let d = drop (line_length s) s in rw (e, ← length-drop (line_length s) s) (take-length d)

pub length_within : (s : List ℕ) → line_length s ≤ length s
unfolding line_length
length_within [] = omega arith
length_within (b ∷ s) = (cut_some (b ∷ s) (omega arith)).within

pub length_some : (s : List ℕ) → 0 < length s → 0 < line_length s
length_some s h = (cut_some s h).some

pub ruleset measured = (length_found, length_whole, length_within, length_some)
