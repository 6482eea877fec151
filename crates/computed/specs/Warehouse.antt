-- Lodge and Strike, with refusals 4, 6, 8, 17 and 18. Assumes nothing.
use Rattle.std.specs.Prelude.{◌≡◌, refl, List, [], ◌∷◌, pos}
use Rattle.book.specs.Codes.{sample}
use Rattle.book.specs.declared.calls.Call.{Call}
use Rattle.computed.specs.Script.{Line, line, ok, no, play, account, receipt, matched, fund, ledger_after}

abbrev script : List Line
script =
    line (Call.Join 0 1) (ok 0)
    ∷ line (Call.Join 0 1) (ok 1)
    ∷ line (Call.Lodge 2 0) (no 6)
    ∷ line (Call.Lodge 0 2) (no 8)
    ∷ line (Call.Lodge 0 0) (ok 0)
    ∷ line (Call.Lodge 0 1) (ok 1)
    ∷ line (Call.Lodge 1 1) (ok 2)
    ∷ line (Call.Declare 0 5_000) (no 4)
    ∷ line (Call.Strike 2 0) (no 6)
    ∷ line (Call.Strike 0 3) (no 17)
    ∷ line (Call.Strike 0 2) (no 17)
    ∷ line (Call.Strike 0 0) (ok 0)
    ∷ line (Call.Strike 0 0) (no 17)
    ∷ line (Call.Trade 1 0 1) (ok 0)
    ∷ line (Call.Offer 0 1) (ok 0)
    ∷ line (Call.Take 1 0) (ok 0)
    ∷ line (Call.Strike 0 1) (no 18)
    ∷ line (Call.Strike 1 1) (no 17)
    ∷ line (Call.Measure 0 (sample 1 1 1 1 1 1) 1) (no 4)
    ∷ line (Call.Terminate 0 0) (no 4)
    ∷ []

answers : play 0 10 50 300 script ≡ script
unfolding play
answers = refl

ledger : ledger_after 0 10 50 300 script
    ≡ account 0 (pos 0) 0 0
    ∷ account 1 (pos 0) 0 0
    ∷ receipt 0 0 0 2
    ∷ receipt 1 0 1 1
    ∷ receipt 2 1 1 0
    ∷ matched 0 1 0 1 300 0 0
    ∷ fund 0
    ∷ []
unfolding ledger_after
ledger = refl
