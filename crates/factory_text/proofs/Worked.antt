-- A list of calls computed, and lines not of the form. Assumes nothing.
use Rattle.std.specs.Prelude.{◌≡◌, [], ◌∷◌, map, codes, Ok}
use Rattle.std.proofs.Common.{refl, replicate}
use Rattle.factory.specs.declared.Call.{Call}
use Rattle.factory.specs.Holders.{making, arrive, leave}
use Rattle.factory.specs.Day.{next_waiting, dispatched, evening, day}
use Rattle.factory.specs.Lists.{step}
use Rattle.reader.specs.Numbers.{numbers_on, numbers}
use Rattle.reader.specs.Lines.{bad, lines}
use Rattle.text.specs.Print.{digits, last_digits, spaced}
use Rattle.factory_text.specs.Calls.{call_of, line_of, making_of, making_line_of}
use Rattle.factory_text.specs.Lists.{answers, line_one, dispatch_output}

-- nine units a day; four holders, a day, one leaves and another arrives, a claim out of range and an empty place, a day
worked_printed : dispatch_output (codes "0 9\n1 7\n1 1\n1 5\n1 4\n3\n2 2\n1 8\n1 1001\n2 4\n3\n") ≡ codes "ok 0\nok 0\nok 0\nok 0\nok 0\nok 3 1 3 2\nok 0\nok 0\nno 8\nno 6\nok 4 0 2 3\n"
unfolding making arrive leave next_waiting dispatched evening day step numbers_on numbers lines digits last_digits spaced call_of line_of making_of making_line_of answers line_one dispatch_output
worked_printed = refl

-- empty input, a daily number out of range and a line one that is none, each of which ends the output
refused_printed : map dispatch_output ([] ∷ codes "0 0\n3\n" ∷ codes "0 1001\n3\n" ∷ codes "1 5\n3\n" ∷ codes "0 5" ∷ []) ≡ codes "no 26\n" ∷ codes "no 8\n" ∷ codes "no 8\n" ∷ codes "no 26\n" ∷ codes "no 26\n" ∷ []
unfolding making numbers_on numbers lines digits last_digits spaced making_of making_line_of line_one dispatch_output
refused_printed = refl

-- a blank line, a leading zero, 19 digits, two spaces, one at either end, a sign, one argument too many and too few, no such call, a making as a later line, no newline
bad_read : map line_of (lines (codes "\n1 02\n1 1000000000000000000\n1  2\n1 2 \n 3\n1 -2\n3 0\n2\n4 1\n0 5\n3")) ≡ replicate 12 bad
unfolding numbers_on numbers lines call_of line_of
bad_read = refl

calls_read : map line_of (lines (codes "1 999999999999999999\n2 31\n3\n")) ≡ Ok (Call.Arrive 999_999_999_999_999_999) ∷ Ok (Call.Leave 31) ∷ Ok Call.Day ∷ []
unfolding numbers_on numbers lines call_of line_of
calls_read = refl
