-- Pay in a receipts book with every pair of faults: no fault, unfit, default, of the buyer and of the seller. Assumes nothing.
use Rattle.std.specs.Prelude.{◌≡◌, refl, List, [], ◌∷◌, ◌++◌, ℕ, ℤ, pos}
use Rattle.book.specs.declared.calls.Call.{Call}
use Rattle.computed.specs.Script.{Line, line, ok, closed, no, each, Row, play, owes, account, receipt, matched, fund, ledger_after, sums_after}

-- ---- what BoardFaults has too

-- nine buyers with their sellers, each fit or not
abbrev pub joined : List Line
joined =
    line (Call.Join 0 1) (ok 0) ∷ line (Call.Join 0 1) (ok 1)
    ∷ line (Call.Join 0 1) (ok 2) ∷ line (Call.Join 0 0) (ok 3)
    ∷ line (Call.Join 0 1) (ok 4) ∷ line (Call.Join 0 1) (ok 5)
    ∷ line (Call.Join 0 0) (ok 6) ∷ line (Call.Join 0 1) (ok 7)
    ∷ line (Call.Join 0 0) (ok 8) ∷ line (Call.Join 0 0) (ok 9)
    ∷ line (Call.Join 0 0) (ok 10) ∷ line (Call.Join 0 1) (ok 11)
    ∷ line (Call.Join 0 1) (ok 12) ∷ line (Call.Join 0 1) (ok 13)
    ∷ line (Call.Join 0 1) (ok 14) ∷ line (Call.Join 0 0) (ok 15)
    ∷ line (Call.Join 0 1) (ok 16) ∷ line (Call.Join 0 1) (ok 17)
    ∷ []

-- their nine matches, paid or ended on the next day
abbrev pub paid : List Line
paid = line (Call.Close 0) (closed 9 0 0) ∷ line (Call.Pay 0) (no 23) ∷ line (Call.Day 900) (ok 1) ∷ each 9 0 (λ j. line (Call.Pay j) (ok 0))

-- the accounts of the eight matches with a fault, those matches and the fund
abbrev pub punished : List Row
punished =
    account 2 (pos 15_400) 0 0 ∷ account 3 (owes 1_400) 0 0
    ∷ account 4 (pos 27_930) 0 0 ∷ account 5 (owes 6_930) 0 0
    ∷ account 6 (pos 25_200) 0 0 ∷ account 7 (pos 2_800) 0 0
    ∷ account 8 (pos 31_500) 0 0 ∷ account 9 (owes 3_500) 0 0
    ∷ account 10 (pos 37_800) 0 0 ∷ account 11 (owes 13_860) 0 0
    ∷ account 12 (owes 16_170) 0 0 ∷ account 13 (pos 16_170) 0 0
    ∷ account 14 (owes 18_480) 0 0 ∷ account 15 (owes 5_600) 0 0
    ∷ account 16 (owes 20_790) 0 0 ∷ account 17 (owes 20_790) 0 0
    ∷ []

abbrev pub ended : List Row
ended =
    matched 1 2 3 2 1_000 4 0
    ∷ matched 2 4 5 3 1_000 4 0
    ∷ matched 3 6 7 4 1_000 4 0
    ∷ matched 4 8 9 5 1_000 4 0
    ∷ matched 5 10 11 6 1_000 4 0
    ∷ matched 6 12 13 7 1_000 4 0
    ∷ matched 7 14 15 8 1_000 4 0
    ∷ matched 8 16 17 9 1_000 4 0
    ∷ fund 90_720
    ∷ []

abbrev pub owed : List ℤ
owed = pos 15_400 ∷ owes 1_400 ∷ pos 27_930 ∷ owes 6_930 ∷ pos 25_200 ∷ pos 2_800 ∷ pos 31_500 ∷ owes 3_500 ∷ pos 37_800 ∷ owes 13_860 ∷ owes 16_170 ∷ pos 16_170 ∷ owes 18_480 ∷ owes 5_600 ∷ owes 20_790 ∷ owes 20_790 ∷ []

-- ---- the session

-- n receipts, not bonded, that account k lodges, from number i on; and as they stand in the ledger, free
abbrev lodged : (n i k : ℕ) → List Line
lodged n i k = each n i (λ j. line (Call.Lodge k 0) (ok j))

abbrev free : (n i k : ℕ) → List Row
free n i k = each n i (λ j. receipt j k 0 0)

abbrev script : List Line
script =
    joined
    ++ line (Call.Trade 0 1 1) (ok 0) ∷ line (Call.Deposit 0 7_000) (ok 0) ∷ lodged 1 0 1
    ++ line (Call.Trade 2 3 2) (ok 0) ∷ line (Call.Deposit 2 14_000) (ok 0) ∷ lodged 2 1 3
    ++ line (Call.Trade 4 5 3) (ok 0) ∷ line (Call.Deposit 4 21_000) (ok 0)
    ∷ line (Call.Trade 6 7 4) (ok 0) ∷ line (Call.Deposit 6 28_000) (ok 0) ∷ lodged 4 3 7
    ++ line (Call.Trade 8 9 5) (ok 0) ∷ line (Call.Deposit 8 35_000) (ok 0) ∷ lodged 5 7 9
    ++ line (Call.Trade 10 11 6) (ok 0) ∷ line (Call.Deposit 10 42_000) (ok 0)
    ∷ line (Call.Trade 12 13 7) (ok 0) ∷ lodged 7 12 13
    ++ line (Call.Trade 14 15 8) (ok 0) ∷ lodged 8 19 15
    ++ line (Call.Trade 16 17 9) (ok 0)
    ∷ paid
    ++ line (Call.HandOver 0) (ok 0) ∷ line (Call.HandOver 1) (no 22)
    ∷ []

answers : play 0 7 33 1_000 script ≡ script
unfolding play
answers = refl

ledger : ledger_after 0 7 33 1_000 script
    ≡ account 0 (pos 0) 0 0 ∷ account 1 (pos 5_600) 0 0
    ∷ punished
    ++ receipt 0 0 0 0
    ∷ free 2 1 3 ++ free 4 3 7 ++ free 5 7 9 ++ free 7 12 13 ++ free 8 19 15
    ++ matched 0 0 1 1 1_000 2 1_400
    ∷ ended
unfolding ledger_after
ledger = refl

sums : sums_after 0 7 33 1_000 script
    ≡ record { deposits = 147_000; withdrawals = 0; traded = 45; cash = pos 54_880; held = 1_400; in_matches = 45; long = 0; short = 0; entered = pos 0 ∷ pos 5_600 ∷ owed }
unfolding sums_after
sums = refl
