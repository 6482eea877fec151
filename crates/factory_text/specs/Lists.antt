-- A list of a factory's calls as text: from the bytes of an input to the bytes of its output. Assumes nothing.
use Rattle.std.specs.Prelude.{cond, List, [], ◌∷◌, ◌++◌, ℕ, ltb, length, Result, Ok, Err}
use Rattle.factory.specs.declared.Call.{Call}
use Rattle.factory.specs.Types.{Factory, Answer, Outcome}
use Rattle.factory.specs.Answers.{refuse}
use Rattle.factory.specs.Holders.{making}
use Rattle.factory.specs.Lists.{step}
use Rattle.reader.specs.declared.lines.BadLine.{BadLine}
use Rattle.reader.specs.Lines.{lines, later}
use Rattle.factory_text.specs.Calls.{line_of, making_line_of}
use Rattle.factory_text.specs.Answers.{answer_line}

-- ---- the later lines

-- a call is answered by the factory; "a line not of the form" is refused, and the factory is as it was
abbrev pub reply : Factory → Result Call BadLine → Outcome
reply f (Ok c) = step f c
reply f (Err e) = refuse 26 f

-- what the lines print, one after the other
unfoldable pub answers : Factory → List (List ℕ) → List ℕ
answers f [] = []
answers f (l ∷ ls) = answer_line (reply f (line_of l)).answer ++ answers (reply f (line_of l)).factory ls

-- the call of a line, in front of others; a bad line is no call
abbrev pub call_then : Result Call BadLine → List Call → List Call
call_then (Ok c) cs = c ∷ cs
call_then (Err e) cs = cs

-- the calls of the later lines
unfoldable pub calls_of : List (List ℕ) → List Call
calls_of [] = []
calls_of (l ∷ ls) = call_then (line_of l) (calls_of ls)

-- ---- line one

-- line one is `0 daily`: the factory that it makes, or the number of its refusal
abbrev pub made_by : Result ℕ BadLine → Result Factory ℕ
made_by (Ok daily) = making daily
made_by (Err e) = Err 26

-- the first line of an input; empty input is refused
abbrev pub first : List (List ℕ) → Result Factory ℕ
first [] = Err 26
first (l ∷ ls) = made_by (making_line_of l)

-- input above 65,536 bytes is refused whole, as empty input is
unfoldable pub line_one : List ℕ → Result Factory ℕ
line_one s = cond (ltb 65_536 (length s)) (Err 26) (first (lines s))

-- ---- the whole

-- `ok 0`, then the answers to the later lines; a refused line one ends the output with its `no n`
abbrev pub told : Result Factory ℕ → List (List ℕ) → List ℕ
told (Ok f) ls = answer_line (Answer.Accepted 0) ++ answers f ls
told (Err n) ls = answer_line (Answer.Refused n)

unfoldable pub dispatch_output : List ℕ → List ℕ
dispatch_output s = told (line_one s) (later (lines s))
