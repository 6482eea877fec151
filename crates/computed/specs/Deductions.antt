-- "a single 80%, half up, if either is outside": Measures with 1,000 kg, so that the amount is the price: F and A at each limit (matches 0 and 1), each alone outside (2 to 5) and both (6 to 8), where 80% is taken once;
-- "P, heat and sulphur steps feed it unchanged": 502 fen by sulphur (9), 80% of that with both outside (10), and with both outside after 500 for heat and the steps for sulphur (11). Assumes nothing.
use Rattle.std.specs.Prelude.{◌≡◌, refl, List, [], ◌∷◌, pos}
use Rattle.book.specs.Codes.{sample}
use Rattle.book.specs.declared.calls.Call.{Call}
use Rattle.computed.specs.Script.{Line, line, ok, play, account, matched, fund, ledger_after, sums_after}

abbrev script : List Line
script =
    line (Call.Join 0 1) (ok 0)
    ∷ line (Call.Join 0 1) (ok 1)
    ∷ line (Call.Deposit 0 96_617) (ok 0)
    ∷ line (Call.Trade 0 1 12) (ok 0)
    ∷ line (Call.Declare 1 5_500) (ok 0)
    ∷ line (Call.Offer 1 1) (ok 0)
    ∷ line (Call.Take 0 1) (ok 0)
    ∷ line (Call.Offer 1 1) (ok 0)
    ∷ line (Call.Take 0 1) (ok 1)
    ∷ line (Call.Offer 1 1) (ok 0)
    ∷ line (Call.Take 0 1) (ok 2)
    ∷ line (Call.Offer 1 1) (ok 0)
    ∷ line (Call.Take 0 1) (ok 3)
    ∷ line (Call.Offer 1 1) (ok 0)
    ∷ line (Call.Take 0 1) (ok 4)
    ∷ line (Call.Offer 1 1) (ok 0)
    ∷ line (Call.Take 0 1) (ok 5)
    ∷ line (Call.Offer 1 1) (ok 0)
    ∷ line (Call.Take 0 1) (ok 6)
    ∷ line (Call.Offer 1 1) (ok 0)
    ∷ line (Call.Take 0 1) (ok 7)
    ∷ line (Call.Day 1_003) (ok 1)
    ∷ line (Call.Offer 1 1) (ok 0)
    ∷ line (Call.Take 0 1) (ok 8)
    ∷ line (Call.Day 3_803) (ok 2)
    ∷ line (Call.Offer 1 1) (ok 0)
    ∷ line (Call.Take 0 1) (ok 9)
    ∷ line (Call.Offer 1 1) (ok 0)
    ∷ line (Call.Take 0 1) (ok 10)
    ∷ line (Call.Day 80_000) (ok 3)
    ∷ line (Call.Declare 1 5_000) (ok 0)
    ∷ line (Call.Offer 1 1) (ok 0)
    ∷ line (Call.Take 0 1) (ok 11)
    ∷ line (Call.Day 1) (ok 4)
    ∷ line (Call.Day 1) (ok 5)
    ∷ line (Call.Pay 0) (ok 0)
    ∷ line (Call.Pay 1) (ok 0)
    ∷ line (Call.Pay 2) (ok 0)
    ∷ line (Call.Pay 3) (ok 0)
    ∷ line (Call.Pay 4) (ok 0)
    ∷ line (Call.Pay 5) (ok 0)
    ∷ line (Call.Pay 6) (ok 0)
    ∷ line (Call.Pay 7) (ok 0)
    ∷ line (Call.Pay 8) (ok 0)
    ∷ line (Call.Pay 9) (ok 0)
    ∷ line (Call.Pay 10) (ok 0)
    ∷ line (Call.Pay 11) (ok 0)
    ∷ line (Call.Measure 0 (sample 1_000 5_500 0 0 3_000 3_000) 1_000) (ok 0)
    ∷ line (Call.Measure 1 (sample 1_000 5_500 0 0 4_200 3_000) 1_000) (ok 0)
    ∷ line (Call.Measure 2 (sample 1_000 5_500 0 0 2_999 3_000) 1_000) (ok 0)
    ∷ line (Call.Measure 3 (sample 1_000 5_500 0 0 4_201 3_000) 1_000) (ok 0)
    ∷ line (Call.Measure 4 (sample 1_000 5_500 0 0 3_000 3_001) 1_000) (ok 0)
    ∷ line (Call.Measure 5 (sample 1_000 5_500 0 0 4_200 3_001) 1_000) (ok 0)
    ∷ line (Call.Measure 6 (sample 1_000 5_500 0 0 2_999 3_001) 1_000) (ok 0)
    ∷ line (Call.Measure 7 (sample 1_000 5_500 0 0 4_201 3_001) 1_000) (ok 0)
    ∷ line (Call.Measure 8 (sample 1_000 5_500 0 0 2_999 3_001) 1_000) (ok 0)
    ∷ line (Call.Measure 9 (sample 1_000 5_500 0 251 3_000 3_000) 1_000) (ok 0)
    ∷ line (Call.Measure 10 (sample 1_000 5_500 0 251 2_999 3_001) 1_000) (ok 0)
    ∷ line (Call.Measure 11 (sample 1_000 4_699 0 151 4_201 3_001) 1_000) (ok 0)
    ∷ []

answers : play 1 1 10 1_001 script ≡ script
unfolding play
answers = refl

ledger : ledger_after 1 1 10 1_001 script
    ≡ account 0 (pos 49_117) 0 0
    ∷ account 1 (pos 37_991) 0 0
    ∷ matched 0 0 1 1 1_001 2 201
    ∷ matched 1 0 1 1 1_001 2 201
    ∷ matched 2 0 1 1 1_001 2 161
    ∷ matched 3 0 1 1 1_001 2 161
    ∷ matched 4 0 1 1 1_001 2 161
    ∷ matched 5 0 1 1 1_001 2 161
    ∷ matched 6 0 1 1 1_001 2 161
    ∷ matched 7 0 1 1 1_001 2 161
    ∷ matched 8 0 1 1 1_003 2 161
    ∷ matched 9 0 1 1 3_803 2 101
    ∷ matched 10 0 1 1 3_803 2 81
    ∷ matched 11 0 1 1 80_000 2 7_798
    ∷ fund 0
    ∷ []
unfolding ledger_after
ledger = refl

sums : sums_after 1 1 10 1_001 script
    ≡ record { deposits = 96_617; withdrawals = 0; traded = 12; cash = pos 87_108; held = 9_509; in_matches = 12; long = 0; short = 0; entered = pos 49_117 ∷ pos 37_991 ∷ [] }
unfolding sums_after
sums = refl
