-- A port's own heat table: the entry of a heat where that is measured, the formula below 4,300, and the same calls by the printed table. Assumes nothing.
use Rattle.std.specs.Prelude.{◌≡◌, refl, List, [], ◌∷◌, ℕ, leb, pos}
use Rattle.heats.specs.Each.{each}
use Rattle.coal.specs.Choice.{pick}
use Rattle.book.specs.Codes.{sample}
use Rattle.book.specs.Lists.{after}
use Rattle.book.specs.declared.calls.Call.{Call}
use Rattle.computed.specs.Script.{Line, line, ok, calls, play, account, matched, fund, book_with, ledger_rows, ledger_after}

-- the whole price from 5,000 on, and half of it below
abbrev own : List ℕ
own = each (λ e. pick (leb 5_000 e) 4_950_000_000 2_475_000_000) 1_701 4_300

-- three matches, of sellers that declared 5,000, 5,000 and 4,300; measured 5,000, 4,999 and 4,299
script : List Line
script =
    line (Call.Join 0 1) (ok 0)
    ∷ line (Call.Join 0 1) (ok 1)
    ∷ line (Call.Join 0 1) (ok 2)
    ∷ line (Call.Deposit 0 4_800_000_000) (ok 0)
    ∷ line (Call.Trade 0 1 2) (ok 0)
    ∷ line (Call.Trade 0 2 1) (ok 0)
    ∷ line (Call.Declare 1 5_000) (ok 0)
    ∷ line (Call.Declare 2 4_300) (ok 0)
    ∷ line (Call.Offer 1 1) (ok 0)
    ∷ line (Call.Take 0 1) (ok 0)
    ∷ line (Call.Offer 1 1) (ok 0)
    ∷ line (Call.Take 0 1) (ok 1)
    ∷ line (Call.Offer 2 1) (ok 0)
    ∷ line (Call.Take 0 2) (ok 2)
    ∷ line (Call.Day 80_000) (ok 1)
    ∷ line (Call.Day 80_000) (ok 2)
    ∷ line (Call.Pay 0) (ok 0)
    ∷ line (Call.Pay 1) (ok 0)
    ∷ line (Call.Pay 2) (ok 0)
    ∷ line (Call.Measure 0 (sample 20_000_000 5_000 0 0 3_000 0) 20_000_000) (ok 0)
    ∷ line (Call.Measure 1 (sample 20_000_000 4_999 0 0 3_000 0) 20_000_000) (ok 0)
    ∷ line (Call.Measure 2 (sample 20_000_000 4_299 0 0 3_000 0) 20_000_000) (ok 0)
    ∷ []

-- "step 2 gives P × entry / 4,950,000,000": 80,000 and 40,000 fen a tonne; "Heats under 4,300 keep the formula.": 29,375
by_own : ledger_rows (after (book_with own 1 20_000 10 80_000) (calls script))
    ≡ account 0 (pos 1_812_500_000) 0 0
    ∷ account 1 (pos 1_920_000_000) 0 0
    ∷ account 2 (pos 470_000_000) 0 0
    ∷ matched 0 0 1 1 80_000 2 320_000_000
    ∷ matched 1 0 1 1 80_000 2 160_000_000
    ∷ matched 2 0 2 1 80_000 2 117_500_000
    ∷ fund 0
    ∷ []
unfolding play after book_with each script
by_own = refl

-- "Job 9's if none was loaded": 70,144, 70,130 and 29,375
by_printed : ledger_after 1 20_000 10 80_000 script
    ≡ account 0 (pos 1_407_020_000) 0 0
    ∷ account 1 (pos 2_244_384_000) 0 0
    ∷ account 2 (pos 470_000_000) 0 0
    ∷ matched 0 0 1 1 80_000 2 280_576_000
    ∷ matched 1 0 1 1 80_000 2 280_520_000
    ∷ matched 2 0 2 1 80_000 2 117_500_000
    ∷ fund 0
    ∷ []
unfolding ledger_after script
by_printed = refl

answered : play 1 20_000 10 80_000 script ≡ script
unfolding play script
answered = refl
