-- The numbers of a line as a call, or as the making of a factory, by how many they are. Assumes nothing.
use Prim.Native.Nat.{ℕ}
use native.Mathlib.Omega.{arith}
use mathlib.Core.Path.{◌≡◌, refl}
use mathlib.Core.List.{List, [], ◌∷◌}
use lib.Dec.{eqb}
use lib.ListN.{length, get_or}
use borrow.Author.Tests.{ne_eqb}
use Rattle.std.specs.Prelude.{cond, Result, Ok, Err}
use Rattle.std.specs.Result.{IsErr}
use Rattle.factory.specs.declared.Call.{Call}
use Rattle.reader.specs.declared.lines.BadLine.{BadLine}
use Rattle.reader.specs.Numbers.{numbers}
use Rattle.reader.specs.Lines.{bad}
use Rattle.factory_text.specs.Calls.{call_of, line_of, making_of, making_line_of}

-- the call, or the daily number, that n numbers are
abbrev pub call_by : List ℕ → ℕ → Result Call BadLine
call_by l n =
    cond (eqb n 1) (cond (eqb (get_or l 0 0) 3) (Ok Call.Day) bad)
    (cond (eqb n 2) (cond (eqb (get_or l 0 0) 1) (Ok (Call.Arrive (get_or l 1 0))) (cond (eqb (get_or l 0 0) 2) (Ok (Call.Leave (get_or l 1 0))) bad))
    bad)

abbrev pub making_by : List ℕ → ℕ → Result ℕ BadLine
making_by l n = cond (eqb n 2) (cond (eqb (get_or l 0 0) 0) (Ok (get_or l 1 0)) bad) bad

pub call_counted : (l : List ℕ) → call_of l ≡ call_by l (length l)
unfolding call_of
call_counted [] = refl
call_counted (k ∷ []) = refl
call_counted (k ∷ x ∷ []) = refl
call_counted (k ∷ x ∷ y ∷ ns) = search (ne_eqb, arith)

pub making_counted : (l : List ℕ) → making_of l ≡ making_by l (length l)
unfolding making_of
making_counted [] = refl
making_counted (k ∷ []) = refl
making_counted (k ∷ x ∷ []) = refl
making_counted (k ∷ x ∷ y ∷ ns) = search (ne_eqb, arith)

-- a number that is none of a call's
pub ruleset counted = (call_counted, ne_eqb)

-- a line without numbers
pub bad_line : (r : Result Call BadLine) (s : List ℕ) → IsErr r → numbers s ≡ [] → r ≡ line_of s
unfolding line_of call_of
bad_line (Ok c) s h e = cc
bad_line (Err x) s h e = rw e refl

pub bad_making : (r : Result ℕ BadLine) (s : List ℕ) → IsErr r → numbers s ≡ [] → r ≡ making_line_of s
unfolding making_line_of making_of
bad_making (Ok d) s h e = cc
bad_making (Err x) s h e = rw e refl
