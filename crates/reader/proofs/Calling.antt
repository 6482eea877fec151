-- The numbers of a line as a call, or as the opening, by how many they are. Assumes nothing.
use Prim.Native.Nat.{ℕ}
use native.Mathlib.Omega.{arith}
use mathlib.Core.Path.{◌≡◌, refl}
use mathlib.Core.List.{List, [], ◌∷◌}
use lib.Dec.{eqb}
use lib.ListN.{length, get_or}
use borrow.Author.Tests.{ne_eqb}
use Rattle.std.specs.Prelude.{Result, Ok, Err}
use Rattle.std.specs.Result.{IsErr}
use Rattle.coal.specs.Choice.{pick}
use Rattle.book.specs.declared.calls.Call.{Call}
use Rattle.book.specs.Codes.{sample}
use Rattle.reader.specs.declared.lines.BadLine.{BadLine}
use Rattle.book.specs.declared.calls.Opening.{Opening}
use Rattle.reader.specs.Numbers.{numbers}
use Rattle.reader.specs.Lines.{bad, call_of, line_of, opening_of, opening_line_of, one_argument, two_arguments, three_arguments}

-- the call, or the opening, that n numbers are
abbrev pub call_by : List ℕ → ℕ → Result Call BadLine
call_by l n =
    pick (eqb n 2) (one_argument (get_or l 0 0) (get_or l 1 0))
    (pick (eqb n 3) (two_arguments (get_or l 0 0) (get_or l 1 0) (get_or l 2 0))
    (pick (eqb n 4) (three_arguments (get_or l 0 0) (get_or l 1 0) (get_or l 2 0) (get_or l 3 0))
    (pick (eqb n 9) (pick (eqb (get_or l 0 0) 14) (Ok (Call.Measure (get_or l 1 0) (sample (get_or l 2 0) (get_or l 3 0) (get_or l 4 0) (get_or l 5 0) (get_or l 6 0) (get_or l 7 0)) (get_or l 8 0))) bad)
    bad)))

abbrev pub opening_by : List ℕ → ℕ → Result Opening BadLine
opening_by l n = pick (eqb n 5) (pick (eqb (get_or l 0 0) 0) (Ok (record { kind = get_or l 1 0; tonnes = get_or l 2 0; rate = get_or l 3 0; price = get_or l 4 0 })) bad) bad

pub call_counted : (l : List ℕ) → call_of l ≡ call_by l (length l)
unfolding call_of
call_counted [] = refl
call_counted (k ∷ []) = refl
call_counted (k ∷ x ∷ []) = refl
call_counted (k ∷ x ∷ y ∷ []) = refl
call_counted (k ∷ x ∷ y ∷ z ∷ []) = refl
call_counted (k ∷ x ∷ y ∷ z ∷ u ∷ []) = refl
call_counted (k ∷ x ∷ y ∷ z ∷ u ∷ v ∷ []) = refl
call_counted (k ∷ x ∷ y ∷ z ∷ u ∷ v ∷ w ∷ []) = refl
call_counted (k ∷ x ∷ y ∷ z ∷ u ∷ v ∷ w ∷ t ∷ []) = refl
call_counted (k ∷ j ∷ w ∷ q ∷ m ∷ s ∷ f ∷ a ∷ d ∷ []) = refl
call_counted (k ∷ j ∷ w ∷ q ∷ m ∷ s ∷ f ∷ a ∷ d ∷ n ∷ ns) = search (ne_eqb, arith)

pub opening_counted : (l : List ℕ) → opening_of l ≡ opening_by l (length l)
unfolding opening_of
opening_counted [] = refl
opening_counted (k ∷ []) = refl
opening_counted (k ∷ x ∷ []) = refl
opening_counted (k ∷ x ∷ y ∷ []) = refl
opening_counted (k ∷ x ∷ y ∷ z ∷ []) = refl
opening_counted (k ∷ kind ∷ t ∷ r ∷ p ∷ []) = refl
opening_counted (k ∷ kind ∷ t ∷ r ∷ p ∷ n ∷ ns) = search (ne_eqb, arith)

-- a number that is none of a call's
pub ruleset counted = (call_counted, ne_eqb)

-- a line without numbers
pub bad_line : (r : Result Call BadLine) (s : List ℕ) → IsErr r → numbers s ≡ [] → r ≡ line_of s
unfolding line_of call_of
bad_line (Ok c) s h e = cc
bad_line (Err x) s h e = rw e refl

pub bad_opening : (r : Result Opening BadLine) (s : List ℕ) → IsErr r → numbers s ≡ [] → r ≡ opening_line_of s
unfolding opening_line_of opening_of
bad_opening (Ok o) s h e = cc
bad_opening (Err x) s h e = rw e refl
