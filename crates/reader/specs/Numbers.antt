-- The numbers of a line, read from its bytes. Assumes nothing.
use Rattle.std.specs.Prelude.{Bool, true, false, List, [], ◌∷◌, ◌++◌, ℕ, ◌+◌, ◌-◌, ◌*◌, ltb, leb, eqb, length, Option, None, Some, Result, Ok, Err}
use Rattle.reader.specs.declared.lines.BadLine.{BadLine}
use Rattle.coal.specs.Choice.{pick}

-- "decimal": a byte from 0 to 9
abbrev pub is_digit : ℕ → Bool
is_digit b = pick (leb 48 b) (leb b 57) false

-- "1 to 18 digits without leading zeros": whether a digit may follow d digits of the value v
abbrev pub takes_digit : ℕ → ℕ → Bool
takes_digit d v = pick (eqb d 0) true (pick (eqb v 0) false (ltb d 18))

-- the same by the value alone: a number, where there is one yet, with one digit more
abbrev pub with_digit : Option ℕ → ℕ → Result ℕ BadLine
with_digit None c = Ok c
with_digit (Some v) c = pick (eqb v 0) (Err (record {})) (pick (ltb v 100_000_000_000_000_000) (Ok (v * 10 + c)) (Err (record {})))

-- whether a number of d digits may end, with n numbers before it: no line of the form has more than nine
abbrev pub ends_number : ℕ → ℕ → Bool
ends_number d n = pick (eqb d 0) false (ltb n 9)

-- "lines ended by one newline": whether the byte b is a newline, with nothing after it
abbrev pub ends_line : ℕ → List ℕ → Bool
ends_line b rest = pick (eqb b 10) (eqb (length rest) 0) false

-- the numbers of a line of which ns, and d digits of the value v, are read, and the bytes s are to come; "one space between"
unfoldable pub numbers_on : List ℕ → ℕ → ℕ → List ℕ → List ℕ
numbers_on [] d v ns = []
numbers_on (b ∷ s) d v ns =
    let longer : List ℕ = numbers_on s (d + 1) (v * 10 + (b - 48)) ns in
    let another : List ℕ = numbers_on s 0 0 (ns ++ (v ∷ [])) in
    pick (is_digit b) (pick (takes_digit d v) longer [])
    (pick (ends_number d (length ns)) (pick (eqb b 32) another (pick (ends_line b s) (ns ++ (v ∷ [])) [])) [])

-- the numbers of a line; none where it is "a line not of the form"
unfoldable pub numbers : List ℕ → List ℕ
numbers s = numbers_on s 0 0 []
