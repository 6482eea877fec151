-- Who is told no: a refusal is one number, and the factory is as it was. Assumes nothing.
use Rattle.std.specs.Prelude.{Bool, true, false, cond, List, [], ◌∷◌, ℕ, Result, Ok, Err}
use Rattle.factory.specs.declared.Refusal.{Refusal}
use Rattle.factory.specs.declared.Carried.{Carried}
use Rattle.factory.specs.Types.{Factory, Answer, Outcome}

-- a refusal with number n
abbrev pub refuse : ℕ → Factory → Outcome
refuse n f = record { answer = Answer.Refused n; factory = f }

-- an arrival or a departure is accepted: it carries 0
abbrev pub accept : Factory → Outcome
accept f = record { answer = Answer.Accepted 0; factory = f }

-- where the condition holds, refusal n with the factory as it was, else the rest
abbrev pub refuse_if : Bool → ℕ → Factory → Outcome → Outcome
refuse_if c n f rest = cond c (refuse n f) rest

abbrev pub is_accepted : Answer → Bool
is_accepted (Answer.Accepted n) = true
is_accepted (Answer.Shared shares) = true
is_accepted (Answer.Refused n) = false

-- the numbers that an answer gives: what it carries, the shares, or the number of the refusal
abbrev pub answer_values : Answer → List ℕ
answer_values (Answer.Accepted n) = n ∷ []
answer_values (Answer.Shared shares) = shares
answer_values (Answer.Refused n) = n ∷ []

-- ---- the result of a function

-- "an empty place is refused as 6", "A daily number or claim out of range is refused as 8", "33 when a thirty-third holder arrives"
abbrev pub refusal_number : Refusal → ℕ
refusal_number Refusal.NoHolder = 6
refusal_number Refusal.OutOfRange = 8
refusal_number Refusal.HoldersFull = 33

-- the result of making a factory, with a refusal by its number
abbrev pub made : Result Factory Refusal → Result Factory ℕ
made (Ok f) = Ok f
made (Err e) = Err (refusal_number e)

-- the answer that the result of a call is
abbrev pub answer_of : Result Carried Refusal → Answer
answer_of (Ok (Carried.Number n)) = Answer.Accepted n
answer_of (Ok (Carried.Shares shares)) = Answer.Shared shares.items
answer_of (Err e) = Answer.Refused (refusal_number e)

-- with the factory that is left
abbrev pub outcome : Result Carried Refusal → Factory → Outcome
outcome r f = record { answer = answer_of r; factory = f }

-- the same of a call that carries a number
abbrev pub number_answer : Result ℕ Refusal → Answer
number_answer (Ok n) = Answer.Accepted n
number_answer (Err e) = Answer.Refused (refusal_number e)

abbrev pub number_outcome : Result ℕ Refusal → Factory → Outcome
number_outcome r f = record { answer = number_answer r; factory = f }

-- and of a day
abbrev pub shared : List ℕ → Factory → Outcome
shared shares f = record { answer = Answer.Shared shares; factory = f }
