-- A board book: Offer and Take by declared heat, Terminate by the seller and by both, refusals 4, 19, 21 and 22. Assumes nothing.
use Rattle.std.specs.Prelude.{◌≡◌, refl, List, [], ◌∷◌, pos}
use Rattle.book.specs.Codes.{sample}
use Rattle.book.specs.declared.calls.Call.{Call}
use Rattle.computed.specs.Script.{Line, line, ok, no, play, owes, account, matched, fund, ledger_after}

abbrev script : List Line
script =
    line (Call.Join 0 1) (ok 0)
    ∷ line (Call.Join 0 1) (ok 1)
    ∷ line (Call.Lodge 0 0) (no 4)
    ∷ line (Call.Strike 0 0) (no 4)
    ∷ line (Call.Declare 2 5_000) (no 6)
    ∷ line (Call.Declare 0 4_299) (no 8)
    ∷ line (Call.Declare 0 10_001) (no 8)
    ∷ line (Call.Trade 1 0 5) (ok 0)
    ∷ line (Call.Offer 0 2) (no 19)
    ∷ line (Call.Declare 0 4_300) (ok 0)
    ∷ line (Call.Offer 0 2) (ok 0)
    ∷ line (Call.Declare 0 10_000) (ok 0)
    ∷ line (Call.Take 1 0) (ok 0)
    ∷ line (Call.Offer 0 3) (ok 0)
    ∷ line (Call.Take 1 0) (ok 1)
    ∷ line (Call.Deposit 1 24_999) (ok 0)
    ∷ line (Call.Pay 0) (no 23)
    ∷ line (Call.Day 60) (ok 1)
    ∷ line (Call.Day 70) (ok 2)
    ∷ line (Call.Pay 0) (ok 0)
    ∷ line (Call.Deposit 1 1) (ok 0)
    ∷ line (Call.Pay 2) (no 21)
    ∷ line (Call.Pay 0) (no 22)
    ∷ line (Call.Pay 1) (ok 0)
    ∷ line (Call.Pay 0) (no 22)
    ∷ line (Call.Terminate 2 0) (no 21)
    ∷ line (Call.Terminate 0 1) (ok 0)
    ∷ line (Call.Deposit 1 15_000) (ok 0)
    ∷ line (Call.Invoice 0) (no 22)
    ∷ line (Call.Measure 2 (sample 1 1 1 1 1 1) 1) (no 21)
    ∷ line (Call.Measure 0 (sample 1 1 1 1 1 1) 1) (no 22)
    ∷ line (Call.Terminate 1 2) (ok 0)
    ∷ []

answers : play 1 100 15 50 script ≡ script
unfolding play
answers = refl

ledger : ledger_after 1 100 15 50 script
    ≡ account 0 (owes 3_750) 0 0
    ∷ account 1 (pos 39_250) 0 0
    ∷ matched 0 1 0 2 50 4 0
    ∷ matched 1 1 0 3 50 4 0
    ∷ fund 4_500
    ∷ []
unfolding ledger_after
ledger = refl
