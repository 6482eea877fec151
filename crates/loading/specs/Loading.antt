-- Document 02, Job 10: a port's own heat table, loaded from bytes. Assumes nothing.
use Rattle.std.specs.Prelude.{Bool, false, not, ◌&&◌, ◌||◌, List, ℕ, zero, suc, ◌+◌, ◌-◌, ◌*◌, ◌^◌, ltb, leb, eqb, length, get_or, Result}
use Rattle.heats.specs.Each.{each}
use Rattle.heats.specs.HeatTables.{entry_of}
use Rattle.coal.specs.Choice.{pick}
use Rattle.book.specs.Outcomes.{Answer}
use Rattle.book.specs.declared.refusals.Refusal.{Refusal}
use Rattle.book.specs.Answers.{answer_of}

-- "8-byte numbers, most significant byte first": the number of the 8 bytes from a place on
unfoldable pub number_at : List ℕ → ℕ → ℕ
number_at s at =
    get_or s at 0 * 256 ^ 7 + get_or s (at + 1) 0 * 256 ^ 6 + get_or s (at + 2) 0 * 256 ^ 5 + get_or s (at + 3) 0 * 256 ^ 4
    + get_or s (at + 4) 0 * 256 ^ 3 + get_or s (at + 5) 0 * 256 ^ 2 + get_or s (at + 6) 0 * 256 + get_or s (at + 7) 0

-- "the count 1,701, then the entries": 1,701 numbers from place 8 on
unfoldable pub entries : List ℕ → List ℕ
entries s = each (λ k. number_at s (8 * k + 8)) 1_701 0

-- "Each must be 1..5,400,000,000."
abbrev pub outside : ℕ → Bool
outside x = ltb x 1 || ltb 5_400_000_000 x

-- "From heat 4,301 on no entry is below the one before.": the entry of a heat is
abbrev pub falls : List ℕ → ℕ → Bool
falls l e = leb 4_301 e && ltb (entry_of l e) (entry_of l (e - 1))

-- the entry of a heat "breaks these rules"
abbrev pub breaks : List ℕ → ℕ → Bool
breaks l e = outside (entry_of l e) || falls l e

-- p holds at one of the n heats from 4,300 on
unfoldable pub any : ℕ → (ℕ → Bool) → Bool
any zero p = false
any (suc n) p = any n p || p (4_300 + n)

-- "when the count, the length or an entry breaks these rules": the table is 13,616 bytes, the count and 1,701 entries
unfoldable pub is_bad : List ℕ → Bool
is_bad s = not (eqb (length s) 13_616) || not (eqb (number_at s 0) 1_701) || any 1_701 (breaks (entries s))

-- what a loading gives: its answer, and the table that is in force after it
pub record Loading : Type 0 where
  pub answer : Answer
  pub heats : List ℕ

-- "31 ..; it is given on loading, .., and the former table is retained."; else the table of those entries, and the answer carries 0
unfoldable pub load : List ℕ → List ℕ → Loading
load s former = pick (is_bad s) (record { answer = Answer.Refused 31; heats = former }) (record { answer = Answer.Accepted 0; heats = entries s })

-- the loading that a function's result is, with the table that is left
abbrev pub loading : Result ℕ Refusal → List ℕ → Loading
loading r heats = record { answer = answer_of r; heats = heats }
