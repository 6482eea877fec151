-- What a line of a list says: a call on a factory, or the making of one. Assumes nothing.
use Rattle.std.specs.Prelude.{cond, List, [], ◌∷◌, ℕ, eqb, Result, Ok}
use Rattle.factory.specs.declared.Call.{Call}
use Rattle.reader.specs.declared.lines.BadLine.{BadLine}
use Rattle.reader.specs.Numbers.{numbers}
use Rattle.reader.specs.Lines.{bad}

-- ---- a line that is a call: its number, then just its arguments

-- an arrival is 1, a departure 2, a day 3
abbrev pub call_number : Call → ℕ
call_number (Call.Arrive claim) = 1
call_number (Call.Leave place) = 2
call_number Call.Day = 3

abbrev pub arguments : Call → List ℕ
arguments (Call.Arrive claim) = claim ∷ []
arguments (Call.Leave place) = place ∷ []
arguments Call.Day = []

-- the call that a line's numbers are; 0 later is no call
unfoldable pub call_of : List ℕ → Result Call BadLine
call_of [] = bad
call_of (k ∷ []) = cond (eqb k 3) (Ok Call.Day) bad
call_of (k ∷ x ∷ []) = cond (eqb k 1) (Ok (Call.Arrive x)) (cond (eqb k 2) (Ok (Call.Leave x)) bad)
call_of (k ∷ x ∷ y ∷ ns) = bad

unfoldable pub line_of : List ℕ → Result Call BadLine
line_of s = call_of (numbers s)

-- ---- line one is `0 daily`: the daily number

unfoldable pub making_of : List ℕ → Result ℕ BadLine
making_of [] = bad
making_of (k ∷ []) = bad
making_of (k ∷ x ∷ []) = cond (eqb k 0) (Ok x) bad
making_of (k ∷ x ∷ y ∷ ns) = bad

unfoldable pub making_line_of : List ℕ → Result ℕ BadLine
making_line_of s = making_of (numbers s)
