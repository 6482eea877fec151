-- Who is told no: "A refusal is one number; the book is unchanged. If several apply, the lowest is given": each call asks its conditions in
-- rising number, so that "a condition about an account, receipt or match that isn't there doesn't apply". Assumes nothing.
use Rattle.std.specs.Prelude.{Bool, true, false, List, [], ◌∷◌, ℕ, Result, Ok, Err}
use Rattle.coal.specs.Choice.{pick}
use Rattle.book.specs.Types.{Refusal, Book, Carried, Answer, Outcome}
use Rattle.book.specs.Codes.{refusal_number}

-- a refusal with number n
abbrev pub refuse : ℕ → Book → Outcome
refuse n b = record { answer = Answer.Refused n; book = b }

-- "the accepted answer carries 0 unless said": it carries n
abbrev pub accept : ℕ → Book → Outcome
accept n b = record { answer = Answer.Accepted n; book = b }

-- "Close carries pairs made, tests made and a gap"
abbrev pub accept_close : (pairs tests gap : ℕ) → Book → Outcome
accept_close pairs tests gap b = record { answer = Answer.Closed pairs tests gap; book = b }

-- where the condition holds, refusal n with the book unchanged, else the rest
abbrev pub refuse_if : Bool → ℕ → Book → Outcome → Outcome
refuse_if c n b rest = pick c (refuse n b) rest

-- "`ok n`" or "`no n`": whether an answer is the one or the other
abbrev pub is_accepted : Answer → Bool
is_accepted (Answer.Accepted n) = true
is_accepted (Answer.Closed pairs tests gap) = true
is_accepted (Answer.Refused n) = false

-- the numbers that an answer gives: what it carries, or the number of the refusal
abbrev pub answer_values : Answer → List ℕ
answer_values (Answer.Accepted n) = n ∷ []
answer_values (Answer.Closed pairs tests gap) = pairs ∷ tests ∷ gap ∷ []
answer_values (Answer.Refused n) = n ∷ []

-- the number of a refusal; 0 for an accepted answer, as no refusal has that number
abbrev pub refusal_of : Answer → ℕ
refusal_of (Answer.Accepted n) = 0
refusal_of (Answer.Closed pairs tests gap) = 0
refusal_of (Answer.Refused n) = n

-- ---- the result of a function

-- the answer that it is: the number carried, or that of the refusal
abbrev pub answer_of : Result ℕ Refusal → Answer
answer_of (Ok n) = Answer.Accepted n
answer_of (Err e) = Answer.Refused (refusal_number e)

-- with the book that is left
abbrev pub outcome : Result ℕ Refusal → Book → Outcome
outcome r b = record { answer = answer_of r; book = b }

-- the same of what any call carries
abbrev pub carried_answer : Result Carried Refusal → Answer
carried_answer (Ok (Carried.Number n)) = Answer.Accepted n
carried_answer (Ok (Carried.Closed pairs tests gap)) = Answer.Closed pairs tests gap
carried_answer (Err e) = Answer.Refused (refusal_number e)

abbrev pub carried_outcome : Result Carried Refusal → Book → Outcome
carried_outcome r b = record { answer = carried_answer r; book = b }

-- the number of a refusal; 0 where there is none
abbrev pub refusal : {A : Type 0} → Result A Refusal → ℕ
refusal (Ok x) = 0
refusal (Err e) = refusal_number e
