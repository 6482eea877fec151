-- The lines of a session after line one: what each prints, and the calls that they make. Assumes nothing.
use Rattle.std.specs.Prelude.{List, [], ◌∷◌, ◌++◌, ℕ, Result, Ok, Err}
use Rattle.book.specs.declared.calls.Call.{Call}
use Rattle.book.specs.declared.tables.Book.{Book}
use Rattle.book.specs.Outcomes.{Outcome}
use Rattle.book.specs.Answers.{refuse}
use Rattle.book.specs.Calls.{step}
use Rattle.reader.specs.declared.lines.BadLine.{BadLine}
use Rattle.reader.specs.Lines.{line_of}
use Rattle.text.specs.Print.{answer_line}

-- a later line: a call is answered by the machine; "a line not of the form" is refused, and the book is as it was
abbrev pub reply : Book → Result Call BadLine → Outcome
reply b (Ok c) = step b c
reply b (Err e) = refuse 26 b

-- "Each line prints `ok n` .. or `no n`."
unfoldable pub answers : Book → List (List ℕ) → List ℕ
answers b [] = []
answers b (l ∷ ls) = answer_line (reply b (line_of l)).answer ++ answers (reply b (line_of l)).book ls

-- the call of a line, in front of others; a bad line is no call
abbrev pub call_then : Result Call BadLine → List Call → List Call
call_then (Ok c) cs = c ∷ cs
call_then (Err e) cs = cs

-- the calls of the later lines
unfoldable pub calls_of : List (List ℕ) → List Call
calls_of [] = []
calls_of (l ∷ ls) = call_then (line_of l) (calls_of ls)
