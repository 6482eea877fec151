-- The lines of a text, and what a line says: a call, or the opening. Assumes nothing.
use Rattle.std.specs.Prelude.{List, [], ◌∷◌, ℕ, ◌+◌, eqb, Result, Ok, Err}
use Rattle.coal.specs.Choice.{pick}
use Rattle.book.specs.declared.calls.Call.{Call}
use Rattle.book.specs.Codes.{sample}
use Rattle.reader.specs.declared.lines.BadLine.{BadLine}
use Rattle.book.specs.declared.calls.Opening.{Opening}
use Rattle.reader.specs.Numbers.{numbers}

-- ---- a text, cut into lines

-- a byte at the front of the first line
abbrev pub onto : ℕ → List (List ℕ) → List (List ℕ)
onto b [] = (b ∷ []) ∷ []
onto b (l ∷ ls) = (b ∷ l) ∷ ls

-- "lines ended by one newline": each with its newline; what follows the last newline is a line with none
unfoldable pub lines : List ℕ → List (List ℕ)
lines [] = []
lines (b ∷ s) = pick (eqb b 10) ((b ∷ []) ∷ lines s) (onto b (lines s))

-- the lines after the first
abbrev pub later : List (List ℕ) → List (List ℕ)
later [] = []
later (l ∷ ls) = ls

-- how many bytes the first line has
unfoldable pub line_length : List ℕ → ℕ
line_length [] = 0
line_length (b ∷ s) = pick (eqb b 10) 1 (line_length s + 1)

-- ---- a line that is a call: "call number 1 to 16, then just its arguments in the order above"; "Lists and sessions may hold call 17";
-- "A list of calls or a session may now hold this one", call 18; "Measure now names the due kilograms of the vessel as well, as its last argument."; "Close takes a budget"

abbrev pub arguments : Call → List ℕ
arguments (Call.Join residence fitness) = residence ∷ fitness ∷ []
arguments (Call.Deposit k x) = k ∷ x ∷ []
arguments (Call.Withdraw k x) = k ∷ x ∷ []
arguments (Call.Trade buyer seller u) = buyer ∷ seller ∷ u ∷ []
arguments (Call.Lodge owner class) = owner ∷ class ∷ []
arguments (Call.Strike owner i) = owner ∷ i ∷ []
arguments (Call.Declare k h) = k ∷ h ∷ []
arguments (Call.Offer seller u) = seller ∷ u ∷ []
arguments (Call.Retract seller) = seller ∷ []
arguments (Call.Take buyer seller) = buyer ∷ seller ∷ []
arguments (Call.Day p) = p ∷ []
arguments (Call.Close budget) = budget ∷ []
arguments (Call.Pay j) = j ∷ []
arguments (Call.Measure j x d) = j ∷ x.weight ∷ x.quality.heat ∷ x.moisture ∷ x.quality.sulphur ∷ x.quality.volatiles ∷ x.quality.ash ∷ d ∷ []
arguments (Call.Invoice j) = j ∷ []
arguments (Call.Terminate j party) = j ∷ party ∷ []
arguments (Call.HandOver j) = j ∷ []
arguments (Call.Auction j winner x) = j ∷ winner ∷ x ∷ []

-- "a line not of the form"
abbrev pub bad : {A : Type 0} → Result A BadLine
bad = Err (record {})

abbrev pub one_argument : ℕ → ℕ → Result Call BadLine
one_argument k x =
    pick (eqb k 9) (Ok (Call.Retract x))
    (pick (eqb k 11) (Ok (Call.Day x))
    (pick (eqb k 12) (Ok (Call.Close x))
    (pick (eqb k 13) (Ok (Call.Pay x))
    (pick (eqb k 15) (Ok (Call.Invoice x))
    (pick (eqb k 17) (Ok (Call.HandOver x))
    bad)))))

abbrev pub two_arguments : ℕ → ℕ → ℕ → Result Call BadLine
two_arguments k x y =
    pick (eqb k 1) (Ok (Call.Join x y))
    (pick (eqb k 2) (Ok (Call.Deposit x y))
    (pick (eqb k 3) (Ok (Call.Withdraw x y))
    (pick (eqb k 5) (Ok (Call.Lodge x y))
    (pick (eqb k 6) (Ok (Call.Strike x y))
    (pick (eqb k 7) (Ok (Call.Declare x y))
    (pick (eqb k 8) (Ok (Call.Offer x y))
    (pick (eqb k 10) (Ok (Call.Take x y))
    (pick (eqb k 16) (Ok (Call.Terminate x y))
    bad))))))))

abbrev pub three_arguments : ℕ → ℕ → ℕ → ℕ → Result Call BadLine
three_arguments k x y z =
    pick (eqb k 4) (Ok (Call.Trade x y z))
    (pick (eqb k 18) (Ok (Call.Auction x y z))
    bad)

-- the call that a line's numbers are; "0 later is 26"
unfoldable pub call_of : List ℕ → Result Call BadLine
call_of [] = bad
call_of (k ∷ []) = bad
call_of (k ∷ x ∷ []) = one_argument k x
call_of (k ∷ x ∷ y ∷ []) = two_arguments k x y
call_of (k ∷ x ∷ y ∷ z ∷ []) = three_arguments k x y z
call_of (k ∷ x ∷ y ∷ z ∷ u ∷ []) = bad
call_of (k ∷ x ∷ y ∷ z ∷ u ∷ v ∷ []) = bad
call_of (k ∷ x ∷ y ∷ z ∷ u ∷ v ∷ w ∷ []) = bad
call_of (k ∷ x ∷ y ∷ z ∷ u ∷ v ∷ w ∷ t ∷ []) = bad
call_of (k ∷ j ∷ w ∷ q ∷ m ∷ s ∷ f ∷ a ∷ d ∷ []) = pick (eqb k 14) (Ok (Call.Measure j (sample w q m s f a) d)) bad
call_of (k ∷ j ∷ w ∷ q ∷ m ∷ s ∷ f ∷ a ∷ d ∷ n ∷ ns) = bad

unfoldable pub line_of : List ℕ → Result Call BadLine
line_of s = call_of (numbers s)

-- ---- the opening: "Line one is `0 kind T R price`"

unfoldable pub opening_of : List ℕ → Result Opening BadLine
opening_of [] = bad
opening_of (k ∷ []) = bad
opening_of (k ∷ x ∷ []) = bad
opening_of (k ∷ x ∷ y ∷ []) = bad
opening_of (k ∷ x ∷ y ∷ z ∷ []) = bad
opening_of (k ∷ kind ∷ t ∷ r ∷ p ∷ []) = pick (eqb k 0) (Ok (record { kind = kind; tonnes = t; rate = r; price = p })) bad
opening_of (k ∷ kind ∷ t ∷ r ∷ p ∷ n ∷ ns) = bad

unfoldable pub opening_line_of : List ℕ → Result Opening BadLine
opening_line_of s = opening_of (numbers s)
