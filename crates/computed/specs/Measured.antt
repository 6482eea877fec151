-- Measure on both sides of its limits, refusal 24, amounts of 0 and above V, cash below zero, Invoice. Assumes nothing.
use Rattle.std.specs.Prelude.{◌≡◌, refl, List, [], ◌∷◌, ◌++◌, pos}
use Rattle.book.specs.Codes.{sample}
use Rattle.book.specs.declared.calls.Call.{Call}
use Rattle.computed.specs.Script.{Line, line, ok, no, play, owes, account, matched, fund, ledger_after, sums_after}

-- up to the second Measure, whose amount is above V
abbrev first_two : List Line
first_two =
    line (Call.Join 0 1) (ok 0)
    ∷ line (Call.Join 0 1) (ok 1)
    ∷ line (Call.Join 0 1) (ok 2)
    ∷ line (Call.Trade 0 1 1) (ok 0)
    ∷ line (Call.Trade 0 2 1) (ok 0)
    ∷ line (Call.Trade 0 1 1) (ok 0)
    ∷ line (Call.Declare 1 5_000) (ok 0)
    ∷ line (Call.Declare 2 6_000) (ok 0)
    ∷ line (Call.Offer 1 1) (ok 0)
    ∷ line (Call.Take 0 1) (ok 0)
    ∷ line (Call.Offer 2 1) (ok 0)
    ∷ line (Call.Take 0 2) (ok 1)
    ∷ line (Call.Offer 1 1) (ok 0)
    ∷ line (Call.Take 0 1) (ok 2)
    ∷ line (Call.Deposit 0 4_800_000_000) (ok 0)
    ∷ line (Call.Day 1) (ok 1)
    ∷ line (Call.Day 1) (ok 2)
    ∷ line (Call.Pay 0) (ok 0)
    ∷ line (Call.Pay 1) (ok 0)
    ∷ line (Call.Pay 2) (ok 0)
    ∷ line (Call.Measure 0 (sample 40_000_000_001 5_300 2_500 80 3_000 3_000) 20_000_000) (no 24)
    ∷ line (Call.Measure 0 (sample 20_000_000 10_001 2_500 80 3_000 3_000) 20_000_000) (no 24)
    ∷ line (Call.Measure 0 (sample 20_000_000 5_300 10_001 80 3_000 3_000) 20_000_000) (no 24)
    ∷ line (Call.Measure 0 (sample 20_000_000 5_300 2_500 10_001 3_000 3_000) 20_000_000) (no 24)
    ∷ line (Call.Measure 0 (sample 20_000_000 5_300 2_500 80 10_001 3_000) 20_000_000) (no 24)
    ∷ line (Call.Measure 0 (sample 20_000_000 5_300 2_500 80 3_000 10_001) 20_000_000) (no 24)
    ∷ line (Call.Invoice 0) (no 22)
    ∷ line (Call.Measure 0 (sample 19_499_999 5_300 2_504 150 4_200 3_000) 20_000_000) (ok 0)
    ∷ line (Call.Measure 0 (sample 1 1 1 1 1 1) 20_000_000) (no 22)
    ∷ line (Call.Measure 1 (sample 40_000_000_000 6_000 2_632 80 3_000 3_000) 20_000_000) (ok 39_979_500_000)
    ∷ []

-- "Cash may go below zero by penalties and by Measure."
below_zero : ledger_after 1 20_000 10 80_000 first_two
    ≡ account 0 (owes 14_512_597) 0 0
    ∷ account 1 (pos 1_158_939_480) 0 0
    ∷ account 2 (pos 1_412_670_596) 0 0
    ∷ matched 0 0 1 1 80_000 2 289_734_871
    ∷ matched 1 0 2 1 80_000 2 353_167_650
    ∷ matched 2 0 1 1 80_000 1 1_600_000_000
    ∷ fund 0
    ∷ []
unfolding ledger_after
below_zero = refl

abbrev script : List Line
script =
    first_two
    ++ line (Call.Measure 2 (sample 0 0 10_000 10_000 10_000 10_000) 20_000_000) (ok 0)
    ∷ line (Call.Invoice 0) (ok 0)
    ∷ line (Call.Invoice 1) (ok 0)
    ∷ line (Call.Invoice 2) (ok 0)
    ∷ line (Call.Invoice 2) (no 22)
    ∷ []

answers : play 1 20_000 10 80_000 script ≡ script
unfolding play
answers = refl

ledger : ledger_after 1 20_000 10 80_000 script
    ≡ account 0 (pos 1_585_487_403) 0 0
    ∷ account 1 (pos 1_448_674_351) 0 0
    ∷ account 2 (pos 1_765_838_246) 0 0
    ∷ matched 0 0 1 1 80_000 3 0
    ∷ matched 1 0 2 1 80_000 3 0
    ∷ matched 2 0 1 1 80_000 3 0
    ∷ fund 0
    ∷ []
unfolding ledger_after
ledger = refl

sums : sums_after 1 20_000 10 80_000 script
    ≡ record { deposits = 4_800_000_000; withdrawals = 0; traded = 3; cash = pos 4_800_000_000; held = 0; in_matches = 3; long = 0; short = 0; entered = pos 1_585_487_403 ∷ pos 1_448_674_351 ∷ pos 1_765_838_246 ∷ [] }
unfolding sums_after
sums = refl
