-- What is printed, as bytes, and what it is to write bytes at a place. Assumes nothing.
use Rattle.std.specs.Prelude.{◌≡◌, List, [], ◌∷◌, ◌++◌, ℕ, zero, suc, ◌+◌, ◌/◌, ◌%◌, ltb, ℤ, pos, negsuc, length, take, drop}
use Rattle.coal.specs.Choice.{pick}
use Rattle.text.specs.Text.{bytes}
use Rattle.book.specs.Outcomes.{Answer}
use Rattle.book.specs.Answers.{is_accepted, answer_values}

-- from place at to place r the bytes were written; what stood before at still stands there, and so does what stood from r on
pub record Put (before after : List ℕ) (at r : ℕ) (bytes : List ℕ) : Type 0 where
  pub next : r ≡ at + length bytes
  pub text : take r after ≡ take at before ++ bytes
  pub kept : drop r after ≡ drop r before

-- the last of n's digits, at most k + 1 of them
unfoldable pub last_digits : ℕ → ℕ → List ℕ
last_digits zero n = (48 + n % 10) ∷ []
last_digits (suc k) n =
    let others : List ℕ = last_digits k (n / 10) in
    pick (ltb n 10) [] others ++ ((48 + n % 10) ∷ [])

-- a number in decimal
unfoldable pub digits : ℕ → List ℕ
digits n = last_digits n n

-- a signed number as f prints a number: "Cash below zero has a minus sign."
abbrev pub with_sign : (ℕ → List ℕ) → ℤ → List ℕ
with_sign f (pos n) = f n
with_sign f (negsuc n) = 45 ∷ f (suc n)

abbrev pub signed : ℤ → List ℕ
signed z = with_sign digits z

-- numbers, a space before each
unfoldable pub spaced : List ℕ → List ℕ
spaced [] = []
spaced (n ∷ ns) = (32 ∷ digits n) ++ spaced ns

-- the rest of a line: numbers, a space before each, and the newline
abbrev pub rest_of_line : List ℕ → List ℕ
rest_of_line ns = spaced ns ++ (10 ∷ [])

-- "Each line prints `ok n` (opening: `ok 0`) or `no n`."
abbrev pub answer_line : Answer → List ℕ
answer_line a = pick (is_accepted a) (bytes "ok") (bytes "no") ++ rest_of_line (answer_values a)
