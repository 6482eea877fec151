-- "step 2 of the price rounds an exact half to the even fen": Measures at an exact half in each of its bands, with 1,000 kg, so that the amount is the price; and "All other roundings keep their rule.": an
-- exact half of an amount (match 2), of a weight by moisture (match 3) and of the 50% for sulphur (match 8). Assumes nothing.
use Rattle.std.specs.Prelude.{◌≡◌, refl, List, [], ◌∷◌, pos}
use Rattle.book.specs.Codes.{sample}
use Rattle.book.specs.declared.calls.Call.{Call}
use Rattle.computed.specs.Script.{Line, line, ok, play, account, matched, fund, ledger_after, sums_after}

abbrev script : List Line
script =
    line (Call.Join 0 1) (ok 0)
    ∷ line (Call.Join 0 1) (ok 1)
    ∷ line (Call.Deposit 0 103_500) (ok 0)
    ∷ line (Call.Trade 0 1 11) (ok 0)
    ∷ line (Call.Declare 1 5_300) (ok 0)
    ∷ line (Call.Offer 1 1) (ok 0)
    ∷ line (Call.Take 0 1) (ok 0)
    ∷ line (Call.Offer 1 1) (ok 0)
    ∷ line (Call.Take 0 1) (ok 1)
    ∷ line (Call.Offer 1 1) (ok 0)
    ∷ line (Call.Take 0 1) (ok 2)
    ∷ line (Call.Offer 1 1) (ok 0)
    ∷ line (Call.Take 0 1) (ok 3)
    ∷ line (Call.Day 3_125) (ok 1)
    ∷ line (Call.Declare 1 4_875) (ok 0)
    ∷ line (Call.Offer 1 1) (ok 0)
    ∷ line (Call.Take 0 1) (ok 4)
    ∷ line (Call.Day 9_375) (ok 2)
    ∷ line (Call.Offer 1 1) (ok 0)
    ∷ line (Call.Take 0 1) (ok 5)
    ∷ line (Call.Day 5_000) (ok 3)
    ∷ line (Call.Declare 1 4_500) (ok 0)
    ∷ line (Call.Offer 1 1) (ok 0)
    ∷ line (Call.Take 0 1) (ok 6)
    ∷ line (Call.Day 15_000) (ok 4)
    ∷ line (Call.Offer 1 1) (ok 0)
    ∷ line (Call.Take 0 1) (ok 7)
    ∷ line (Call.Offer 1 1) (ok 0)
    ∷ line (Call.Take 0 1) (ok 8)
    ∷ line (Call.Day 11_250) (ok 5)
    ∷ line (Call.Declare 1 4_300) (ok 0)
    ∷ line (Call.Offer 1 1) (ok 0)
    ∷ line (Call.Take 0 1) (ok 9)
    ∷ line (Call.Day 33_750) (ok 6)
    ∷ line (Call.Offer 1 1) (ok 0)
    ∷ line (Call.Take 0 1) (ok 10)
    ∷ line (Call.Day 1) (ok 7)
    ∷ line (Call.Day 1) (ok 8)
    ∷ line (Call.Pay 0) (ok 0)
    ∷ line (Call.Pay 1) (ok 0)
    ∷ line (Call.Pay 2) (ok 0)
    ∷ line (Call.Pay 3) (ok 0)
    ∷ line (Call.Pay 4) (ok 0)
    ∷ line (Call.Pay 5) (ok 0)
    ∷ line (Call.Pay 6) (ok 0)
    ∷ line (Call.Pay 7) (ok 0)
    ∷ line (Call.Pay 8) (ok 0)
    ∷ line (Call.Pay 9) (ok 0)
    ∷ line (Call.Pay 10) (ok 0)
    ∷ line (Call.Measure 0 (sample 1_000 5_301 0 0 3_000 3_000) 1_000) (ok 0)
    ∷ line (Call.Measure 1 (sample 1_000 5_303 0 0 3_000 3_000) 1_000) (ok 0)
    ∷ line (Call.Measure 2 (sample 100 5_330 0 0 3_000 3_000) 1_000) (ok 0)
    ∷ line (Call.Measure 3 (sample 1_500 5_300 2_505 0 3_000 3_000) 1_000) (ok 0)
    ∷ line (Call.Measure 4 (sample 1_000 4_875 0 0 3_000 3_000) 1_000) (ok 0)
    ∷ line (Call.Measure 5 (sample 1_000 4_875 0 0 3_000 3_000) 1_000) (ok 0)
    ∷ line (Call.Measure 6 (sample 1_000 4_500 0 0 3_000 3_000) 1_000) (ok 0)
    ∷ line (Call.Measure 7 (sample 1_000 4_500 0 0 3_000 3_000) 1_000) (ok 0)
    ∷ line (Call.Measure 8 (sample 1_000 4_501 0 251 3_000 3_000) 1_000) (ok 0)
    ∷ line (Call.Measure 9 (sample 1_000 4_000 0 0 3_000 3_000) 1_000) (ok 0)
    ∷ line (Call.Measure 10 (sample 1_000 4_000 0 0 3_000 3_000) 1_000) (ok 0)
    ∷ []

answers : play 1 1 10 2_750 script ≡ script
unfolding play
answers = refl

ledger : ledger_after 1 1 10 2_750 script
    ≡ account 0 (pos 48_158) 0 0
    ∷ account 1 (pos 44_270) 0 0
    ∷ matched 0 0 1 1 2_750 2 530
    ∷ matched 1 0 1 1 2_750 2 531
    ∷ matched 2 0 1 1 2_750 2 54
    ∷ matched 3 0 1 1 2_750 2 795
    ∷ matched 4 0 1 1 3_125 2 535
    ∷ matched 5 0 1 1 9_375 2 1_603
    ∷ matched 6 0 1 1 5_000 2 769
    ∷ matched 7 0 1 1 15_000 2 2_306
    ∷ matched 8 0 1 1 15_000 2 874
    ∷ matched 9 0 1 1 11_250 2 769
    ∷ matched 10 0 1 1 33_750 2 2_306
    ∷ fund 0
    ∷ []
unfolding ledger_after
ledger = refl

sums : sums_after 1 1 10 2_750 script
    ≡ record { deposits = 103_500; withdrawals = 0; traded = 11; cash = pos 92_428; held = 11_072; in_matches = 11; long = 0; short = 0; entered = pos 48_158 ∷ pos 44_270 ∷ [] }
unfolding sums_after
sums = refl
