-- What a line is answered, and how an answer is printed. Assumes nothing.
use Rattle.std.specs.Prelude.{⊤, cond, List, ℕ, ◌++◌, ◌≤◌, ◌<◌, ◌^◌, length, Result, Ok, Err}
use Rattle.factory.specs.declared.Carried.{Carried}
use Rattle.factory.specs.Types.{Factory, Answer, Outcome}
use Rattle.factory.specs.Answers.{refusal_number, is_accepted, answer_values, answer_of}
use Rattle.text.specs.Text.{bytes}
use Rattle.text.specs.Print.{rest_of_line}
use Rattle.text.specs.Printer.{AllFit}
use Rattle.factory_text.specs.declared.answers.Refused.{Refused}

-- `ok 0`, a day's `ok` with "each holder's share", a space before each, or `no n`; and the newline
abbrev pub answer_line : Answer → List ℕ
answer_line a = cond (is_accepted a) (bytes "ok") (bytes "no") ++ rest_of_line (answer_values a)

-- an answer has at most 163 bytes: its shares are at most 32 numbers of at most four digits
abbrev pub IsShort : Answer → Type 0
IsShort (Answer.Accepted n) = ⊤
IsShort (Answer.Shared shares) = (length shares ≤ 32) × AllFit (λ _ n. n < 10 ^ 4) 0 shares
IsShort (Answer.Refused n) = ⊤

-- ---- the result of a function

-- "26 a line not of the form", or the number of a call's refusal
abbrev pub refused_number : Refused → ℕ
refused_number Refused.BadLine = 26
refused_number (Refused.Call e) = refusal_number e

-- the answer that the result of a line is
abbrev pub reply_answer : Result Carried Refused → Answer
reply_answer (Ok carried) = answer_of (Ok carried)
reply_answer (Err e) = Answer.Refused (refused_number e)

-- with the factory that is left
abbrev pub reply_outcome : Result Carried Refused → Factory → Outcome
reply_outcome r f = record { answer = reply_answer r; factory = f }

-- the result of line one, with a refusal by its number
abbrev pub made : Result Factory Refused → Result Factory ℕ
made (Ok f) = Ok f
made (Err e) = Err (refused_number e)
