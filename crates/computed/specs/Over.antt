-- "Measure's accepted answer carries the second": the kilograms over on both sides of D + 500,000, where moisture takes three quarters, at the most W, and where D is of two units. Assumes nothing.
use Rattle.std.specs.Prelude.{◌≡◌, refl, List, [], ◌∷◌, pos}
use Rattle.book.specs.Codes.{sample}
use Rattle.book.specs.declared.calls.Call.{Call}
use Rattle.computed.specs.Script.{Line, line, ok, no, play, account, matched, fund, ledger_after, sums_after}

abbrev script : List Line
script =
    line (Call.Join 0 1) (ok 0)
    ∷ line (Call.Join 0 1) (ok 1)
    ∷ line (Call.Trade 0 1 7) (ok 0)
    ∷ line (Call.Declare 1 5_000) (ok 0)
    ∷ line (Call.Deposit 0 11_200_000_000) (ok 0)
    ∷ line (Call.Offer 1 1) (ok 0)
    ∷ line (Call.Take 0 1) (ok 0)
    ∷ line (Call.Offer 1 1) (ok 0)
    ∷ line (Call.Take 0 1) (ok 1)
    ∷ line (Call.Offer 1 1) (ok 0)
    ∷ line (Call.Take 0 1) (ok 2)
    ∷ line (Call.Offer 1 1) (ok 0)
    ∷ line (Call.Take 0 1) (ok 3)
    ∷ line (Call.Offer 1 1) (ok 0)
    ∷ line (Call.Take 0 1) (ok 4)
    ∷ line (Call.Offer 1 2) (ok 0)
    ∷ line (Call.Take 0 1) (ok 5)
    ∷ line (Call.Day 1) (ok 1)
    ∷ line (Call.Day 1) (ok 2)
    ∷ line (Call.Pay 0) (ok 0)
    ∷ line (Call.Pay 1) (ok 0)
    ∷ line (Call.Pay 2) (ok 0)
    ∷ line (Call.Pay 3) (ok 0)
    ∷ line (Call.Pay 4) (ok 0)
    ∷ line (Call.Pay 5) (ok 0)
    ∷ line (Call.Measure 0 (sample 20_000_001 5_300 2_500 80 3_000 3_000) 20_000_000) (ok 0)
    ∷ line (Call.Measure 1 (sample 20_500_000 5_300 2_500 80 3_000 3_000) 20_000_000) (ok 0)
    ∷ line (Call.Measure 2 (sample 20_500_001 5_300 2_500 80 3_000 3_000) 20_000_000) (ok 1)
    ∷ line (Call.Measure 3 (sample 20_500_001 5_300 10_000 80 3_000 3_000) 20_000_000) (ok 1)
    ∷ line (Call.Measure 4 (sample 40_000_000_001 5_300 2_504 80 3_000 3_000) 20_000_000) (no 24)
    ∷ line (Call.Measure 4 (sample 40_000_000_000 5_300 2_504 80 3_000 3_000) 20_000_000) (ok 39_979_500_000)
    ∷ line (Call.Measure 4 (sample 40_000_000_000 5_300 2_504 80 3_000 3_000) 20_000_000) (no 22)
    ∷ line (Call.Measure 5 (sample 40_500_001 5_300 2_505 80 3_000 3_000) 40_000_000) (ok 1)
    ∷ []

answers : play 1 20_000 10 80_000 script ≡ script
unfolding play
answers = refl

-- a kilogram over is not paid for: matches 1 and 2 hold the same
ledger : ledger_after 1 20_000 10 80_000 script
    ≡ account 0 (pos 1_402_928_733) 0 0
    ∷ account 1 (pos 7_837_657_013) 0 0
    ∷ matched 0 0 1 1 80_000 2 308_364_016
    ∷ matched 1 0 1 1 80_000 2 316_073_100
    ∷ matched 2 0 1 1 80_000 2 316_073_100
    ∷ matched 3 0 1 1 80_000 2 79_018_275
    ∷ matched 4 0 1 1 80_000 2 316_073_100
    ∷ matched 5 0 1 2 80_000 2 623_812_663
    ∷ fund 0
    ∷ []
unfolding ledger_after
ledger = refl

sums : sums_after 1 20_000 10 80_000 script
    ≡ record { deposits = 11_200_000_000; withdrawals = 0; traded = 7; cash = pos 9_240_585_746; held = 1_959_414_254; in_matches = 7; long = 0; short = 0; entered = pos 1_402_928_733 ∷ pos 7_837_657_013 ∷ [] }
unfolding sums_after
sums = refl
