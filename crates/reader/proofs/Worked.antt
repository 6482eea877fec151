-- Document 01's worked session, with Hand over as document 02 ends it, read line by line; and lines not of the form, computed. Assumes nothing.
use mathlib.Core.Path.{◌≡◌, refl}
use mathlib.Core.List.{[], ◌∷◌, map}
use lib.ListN.{replicate}
use Rattle.std.specs.Prelude.{Ok}
use Rattle.book.specs.declared.calls.Call.{Call}
use Rattle.std.specs.Prelude.{codes}
use Rattle.reader.specs.Numbers.{numbers_on, numbers}
use Rattle.reader.specs.Lines.{bad, lines, call_of, line_of, opening_of, opening_line_of}

opening_read : opening_line_of (codes "0 0 5 20 600000\n") ≡ Ok (record { kind = 0; tonnes = 5; rate = 20; price = 600_000 })
unfolding numbers_on numbers opening_of opening_line_of
opening_read = refl

session_read : map line_of (lines (codes "1 0 1\n1 1 1\n2 1 7000000\n4 1 0 2\n5 0 1\n5 0 0\n12 0\n11 610000\n13 0\n17 0\n")) ≡
    Ok (Call.Join 0 1) ∷ Ok (Call.Join 1 1) ∷ Ok (Call.Deposit 1 7_000_000) ∷ Ok (Call.Trade 1 0 2) ∷ Ok (Call.Lodge 0 1)
    ∷ Ok (Call.Lodge 0 0) ∷ Ok (Call.Close 0) ∷ Ok (Call.Day 610_000) ∷ Ok (Call.Pay 0) ∷ Ok (Call.HandOver 0) ∷ []
unfolding numbers_on numbers lines call_of line_of
session_read = refl

-- a blank line, leading zeros, 19 digits, spaces, a sign, one argument too many and too few, no such call, an opening as a later line, no newline
bad_read : map line_of (lines (codes "\n012\n9 00\n9 1000000000000000000\n9  0\n9 0 \n 9 0\n9 -1\n12 0 0\n12\n19 0\n0 0 5 20 600000\n12 0")) ≡ replicate 13 bad
unfolding numbers_on numbers lines call_of line_of
bad_read = refl

most_read : line_of (codes "9 999999999999999999\n") ≡ Ok (Call.Retract 999_999_999_999_999_999)
unfolding numbers_on numbers call_of line_of
most_read = refl
