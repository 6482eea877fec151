-- A match loaded in one vessel, in two and in eight; the eighth short, above and right, and no ninth; one terminated after a first vessel, and one that stays prepaid with V held; refusal 32 in
-- each of its ways, and after 24. Each amount is rounded by itself: two vessels of 500 kg at 1,001 fen/t are 501 fen each, where a tonne is 1,001. Assumes nothing.
use Rattle.std.specs.Prelude.{◌≡◌, refl, List, [], ◌∷◌, ℕ, pos}
use Rattle.book.specs.Codes.{sample}
use Rattle.book.specs.declared.calls.Call.{Call}
use Rattle.book.specs.Vessels.{of_measure, over_measures, vessels_measured, dues_measured, amounts_measured}
use Rattle.computed.specs.Script.{Line, line, ok, no, calls, play, book_of, account, matched, fund, ledger_after, sums_after}

abbrev script : List Line
script =
    line (Call.Join 0 1) (ok 0)
    ∷ line (Call.Join 0 1) (ok 1)
    ∷ line (Call.Trade 0 1 5) (ok 0)
    ∷ line (Call.Declare 1 5_500) (ok 0)
    ∷ line (Call.Deposit 0 5_005) (ok 0)
    ∷ line (Call.Offer 1 1) (ok 0)
    ∷ line (Call.Take 0 1) (ok 0)
    ∷ line (Call.Offer 1 1) (ok 0)
    ∷ line (Call.Take 0 1) (ok 1)
    ∷ line (Call.Offer 1 1) (ok 0)
    ∷ line (Call.Take 0 1) (ok 2)
    ∷ line (Call.Offer 1 1) (ok 0)
    ∷ line (Call.Take 0 1) (ok 3)
    ∷ line (Call.Offer 1 1) (ok 0)
    ∷ line (Call.Take 0 1) (ok 4)
    ∷ line (Call.Day 1) (ok 1)
    ∷ line (Call.Day 1) (ok 2)
    ∷ line (Call.Pay 0) (ok 0)
    ∷ line (Call.Pay 1) (ok 0)
    ∷ line (Call.Pay 2) (ok 0)
    ∷ line (Call.Pay 3) (ok 0)
    ∷ line (Call.Pay 4) (ok 0)
    ∷ line (Call.Measure 0 (sample 1_000 5_500 0 0 3_000 0) 1_000) (ok 0)
    ∷ line (Call.Measure 1 (sample 500 5_500 0 0 3_000 0) 500) (ok 0)
    ∷ line (Call.Invoice 1) (no 22)
    ∷ line (Call.Measure 1 (sample 500 5_500 0 0 3_000 0) 500) (ok 0)
    ∷ line (Call.Measure 2 (sample 100 5_500 0 0 3_000 0) 100) (ok 0)
    ∷ line (Call.Measure 2 (sample 100 5_500 0 0 3_000 0) 100) (ok 0)
    ∷ line (Call.Measure 2 (sample 100 5_500 0 0 3_000 0) 100) (ok 0)
    ∷ line (Call.Measure 2 (sample 100 5_500 0 0 3_000 0) 100) (ok 0)
    ∷ line (Call.Measure 2 (sample 100 5_500 0 0 3_000 0) 100) (ok 0)
    ∷ line (Call.Measure 2 (sample 100 5_500 0 0 3_000 0) 100) (ok 0)
    ∷ line (Call.Measure 2 (sample 100 5_500 0 0 3_000 0) 100) (ok 0)
    ∷ line (Call.Measure 2 (sample 300 5_500 0 0 3_000 0) 299) (no 32)
    ∷ line (Call.Measure 2 (sample 300 5_500 0 0 3_000 0) 301) (no 32)
    ∷ line (Call.Measure 2 (sample 300 5_500 0 0 3_000 0) 300) (ok 0)
    ∷ line (Call.Measure 2 (sample 300 5_500 0 0 3_000 0) 300) (no 22)
    ∷ line (Call.Measure 3 (sample 400 5_500 0 0 3_000 0) 400) (ok 0)
    ∷ line (Call.Terminate 3 2) (ok 0)
    ∷ line (Call.Measure 3 (sample 600 5_500 0 0 3_000 0) 600) (no 22)
    ∷ line (Call.Measure 4 (sample 0 10_001 0 0 3_000 0) 0) (no 24)
    ∷ line (Call.Measure 4 (sample 1 5_500 0 0 3_000 0) 0) (no 32)
    ∷ line (Call.Measure 4 (sample 1 5_500 0 0 3_000 0) 1_001) (no 32)
    ∷ line (Call.Measure 4 (sample 501_000 5_500 0 0 3_000 0) 999) (ok 1)
    ∷ line (Call.Measure 4 (sample 1 5_500 0 0 3_000 0) 2) (no 32)
    ∷ line (Call.Measure 4 (sample 1 5_500 0 0 3_000 0) 999_999_999_999_999_999) (no 32)
    ∷ line (Call.Measure 4 (sample 1 5_500 0 0 3_000 0) 0) (no 32)
    ∷ line (Call.Invoice 4) (no 22)
    ∷ []

answers : play 1 1 20 1_001 script ≡ script
unfolding play
answers = refl

-- of 1,001, 1,002 and 1,000 fen 80%, down, is the seller's; V of match 3 went back, and both paid the fund
ledger : ledger_after 1 1 20 1_001 script
    ≡ account 0 (pos 801) 0 0
    ∷ account 1 (pos 2_201) 0 0
    ∷ matched 0 0 1 1 1_001 2 201
    ∷ matched 1 0 1 1 1_001 2 201
    ∷ matched 2 0 1 1 1_001 2 200
    ∷ matched 3 0 1 1 1_001 4 0
    ∷ matched 4 0 1 1 1_001 1 1_001
    ∷ fund 400
    ∷ []
unfolding ledger_after
ledger = refl

sums : sums_after 1 1 20 1_001 script
    ≡ record { deposits = 5_005; withdrawals = 0; traded = 5; cash = pos 3_002; held = 1_603; in_matches = 5; long = 0; short = 0; entered = pos 801 ∷ pos 2_201 ∷ [] }
unfolding sums_after
sums = refl

-- of each match, how many vessels, their due kilograms and their amounts
vessels_after : ℕ → List ℕ
unfolding play of_measure over_measures
vessels_after j = let b = book_of 1 1 20 1_001 in let cs = calls script in vessels_measured j b cs ∷ dues_measured j b cs ∷ amounts_measured j b cs ∷ []

two : vessels_after 1 ≡ 2 ∷ 1_000 ∷ 1_002 ∷ []
unfolding vessels_after
two = refl

eight : vessels_after 2 ≡ 8 ∷ 1_000 ∷ 1_000 ∷ []
unfolding vessels_after
eight = refl

short : vessels_after 4 ≡ 1 ∷ 999 ∷ 501_500 ∷ []
unfolding vessels_after
short = refl
