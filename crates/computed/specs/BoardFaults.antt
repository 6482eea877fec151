-- Pay in a board book with every pair of faults; Hand over, which finds no funded match there; Terminate by each party, and with a party that is none. Assumes nothing.
use Rattle.std.specs.Prelude.{◌≡◌, refl, List, [], ◌∷◌, ◌++◌, pos}
use Rattle.book.specs.declared.calls.Call.{Call}
use Rattle.computed.specs.Script.{Line, line, ok, no, play, account, matched, ledger_after, sums_after}
use Rattle.computed.specs.Faults.{joined, paid, punished, ended, owed}

abbrev script : List Line
script =
    joined
    ++ line (Call.Trade 0 1 1) (ok 0) ∷ line (Call.Deposit 0 7_000) (ok 0) ∷ line (Call.Declare 1 5_000) (ok 0)
    ∷ line (Call.Trade 2 3 2) (ok 0) ∷ line (Call.Deposit 2 14_000) (ok 0) ∷ line (Call.Declare 3 5_000) (ok 0)
    ∷ line (Call.Trade 4 5 3) (ok 0) ∷ line (Call.Deposit 4 21_000) (ok 0)
    ∷ line (Call.Trade 6 7 4) (ok 0) ∷ line (Call.Deposit 6 28_000) (ok 0) ∷ line (Call.Declare 7 5_000) (ok 0)
    ∷ line (Call.Trade 8 9 5) (ok 0) ∷ line (Call.Deposit 8 35_000) (ok 0) ∷ line (Call.Declare 9 5_000) (ok 0)
    ∷ line (Call.Trade 10 11 6) (ok 0) ∷ line (Call.Deposit 10 42_000) (ok 0)
    ∷ line (Call.Trade 12 13 7) (ok 0) ∷ line (Call.Declare 13 5_000) (ok 0)
    ∷ line (Call.Trade 14 15 8) (ok 0) ∷ line (Call.Declare 15 5_000) (ok 0)
    ∷ line (Call.Trade 16 17 9) (ok 0)
    ∷ paid
    ++ line (Call.HandOver 0) (no 22)
    ∷ line (Call.HandOver 1) (no 22)
    ∷ line (Call.HandOver 9) (no 21)
    ∷ line (Call.Terminate 0 3) (no 8)
    ∷ line (Call.Terminate 9 0) (no 21)
    ∷ line (Call.Terminate 0 0) (ok 0)
    ∷ line (Call.Terminate 0 0) (no 22)
    ∷ []

answers : play 1 7 33 1_000 script ≡ script
unfolding play
answers = refl

ledger : ledger_after 1 7 33 1_000 script ≡ account 0 (pos 4_690) 0 0 ∷ account 1 (pos 2_310) 0 0 ∷ punished ++ matched 0 0 1 1 1_000 4 0 ∷ ended
unfolding ledger_after
ledger = refl

sums : sums_after 1 7 33 1_000 script
    ≡ record { deposits = 147_000; withdrawals = 0; traded = 45; cash = pos 56_280; held = 0; in_matches = 45; long = 0; short = 0; entered = pos 4_690 ∷ pos 2_310 ∷ owed }
unfolding sums_after
sums = refl
