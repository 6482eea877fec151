-- The session program: from the bytes of its input to the bytes of its output, with a heat table, a loaded one or the printed one. Assumes nothing.
use Rattle.std.specs.Prelude.{◌≡◌, true, List, [], ◌∷◌, ◌++◌, ℕ, ◌≤◌, ltb, length, take, drop, Result, Ok, Err}
use Rattle.coal.specs.Choice.{pick}
use Rattle.book.specs.declared.tables.Book.{Book}
use Rattle.book.specs.Outcomes.{Outcome}
use Rattle.book.specs.Answers.{refuse, accept, is_accepted}
use Rattle.book.specs.Opening.{opening, no_book}
use Rattle.book.specs.Lists.{after}
use Rattle.book.specs.Demand3.{Holds}
use Rattle.reader.specs.declared.lines.BadLine.{BadLine}
use Rattle.book.specs.declared.calls.Opening.{Opening}
use Rattle.reader.specs.Lines.{lines, later, opening_line_of}
use Rattle.text.specs.Print.{answer_line}
use Rattle.text.specs.Ledger.{ledger}
use Rattle.running.specs.Later.{answers, calls_of}

-- the answers to the later lines; "Then the ledger" of the book after their calls
unfoldable pub told : Book → List (List ℕ) → List ℕ
told b ls = answers b ls ++ ledger (after b (calls_of ls))

-- ---- line one

-- "Line one is `0 kind T R price`"; "26 a line not of the form"
abbrev pub opened : List ℕ → Result Opening BadLine → Outcome
opened heats (Ok o) = opening heats o.kind o.tonnes o.rate o.price
opened heats (Err e) = refuse 26 no_book

-- the first line of an input; "Empty input prints `no 26`"
abbrev pub first : List ℕ → List (List ℕ) → Outcome
first heats [] = refuse 26 no_book
first heats (l ∷ ls) = opened heats (opening_line_of l)

-- line one's outcome; "input above 65,536 bytes (refused whole, as empty input is)"
unfoldable pub line_one : List ℕ → List ℕ → Outcome
line_one heats s = pick (ltb 65_536 (length s)) (refuse 26 no_book) (first heats (lines s))

-- ---- the whole

-- line one prints "(opening: `ok 0`)"; "a refused line one ends the output with its `no n`, and no ledger follows"
unfoldable pub session : List ℕ → List ℕ → List ℕ
session heats s = answer_line (line_one heats s).answer ++ pick (is_accepted (line_one heats s).answer) (told (line_one heats s).book (later (lines s))) []

-- line one's answer and, where that is accepted, the book after the later lines' calls
unfoldable pub outcome : List ℕ → List ℕ → Outcome
outcome heats s = pick (is_accepted (line_one heats s).answer) (accept 0 (after (line_one heats s).book (calls_of (later (lines s))))) (line_one heats s)

-- ---- demand 3, of the calls that a session ran

-- the calls of an input's later lines, from the book of its line one where that is accepted
abbrev pub Demanded : List ℕ → List (List ℕ) → Type 0
Demanded heats ls = is_accepted (first heats ls).answer ≡ true → Holds (first heats ls).book (calls_of (later ls)) (after (first heats ls).book (calls_of (later ls)))

-- ---- what the functions promise

-- 12 bytes for each byte of an input, 24 for line one, and the longest ledger
abbrev pub room : ℕ
room = 848_427

-- the first r bytes of the output are the session's, and those after them are as before; and demand 3 holds of the calls that it ran
pub record Delivered (heats input before out : List ℕ) (r : ℕ) : Type 0 where
  pub within : r ≤ length out
  pub counted : r ≡ length (take r out)
  pub text : take r out ≡ session heats input
  pub kept : drop r out ≡ drop r before
  pub demanded : Demanded heats (lines input)
