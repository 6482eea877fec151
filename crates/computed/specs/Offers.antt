-- Offer, Retract and Take in a receipts book, with refusals 6 to 8, 12 to 15: an offer reserves no receipt. Assumes nothing.
use Rattle.std.specs.Prelude.{◌≡◌, refl, List, [], ◌∷◌, pos}
use Rattle.book.specs.declared.calls.Call.{Call}
use Rattle.computed.specs.Script.{Line, line, ok, no, play, account, receipt, matched, fund, ledger_after, sums_after}

abbrev script : List Line
script =
    line (Call.Join 0 1) (ok 0)
    ∷ line (Call.Join 0 1) (ok 1)
    ∷ line (Call.Join 0 1) (ok 2)
    ∷ line (Call.Trade 1 0 3) (ok 0)
    ∷ line (Call.Offer 3 1) (no 6)
    ∷ line (Call.Offer 0 0) (no 8)
    ∷ line (Call.Offer 0 1_001) (no 8)
    ∷ line (Call.Offer 1 1) (no 14)
    ∷ line (Call.Offer 0 4) (no 14)
    ∷ line (Call.Offer 0 1) (no 15)
    ∷ line (Call.Lodge 0 1) (ok 0)
    ∷ line (Call.Lodge 0 0) (ok 1)
    ∷ line (Call.Offer 0 3) (no 15)
    ∷ line (Call.Offer 0 2) (ok 0)
    ∷ line (Call.Offer 0 1) (no 12)
    ∷ line (Call.Take 3 0) (no 6)
    ∷ line (Call.Take 1 3) (no 6)
    ∷ line (Call.Take 0 0) (no 7)
    ∷ line (Call.Take 1 2) (no 13)
    ∷ line (Call.Take 2 0) (no 14)
    ∷ line (Call.Strike 0 0) (ok 0)
    ∷ line (Call.Take 1 0) (no 15)
    ∷ line (Call.Lodge 0 0) (ok 2)
    ∷ line (Call.Take 1 0) (ok 0)
    ∷ line (Call.Retract 0) (no 13)
    ∷ line (Call.Retract 3) (no 6)
    ∷ line (Call.Offer 0 1) (no 15)
    ∷ line (Call.Lodge 0 0) (ok 3)
    ∷ line (Call.Offer 0 1) (ok 0)
    ∷ line (Call.Retract 0) (ok 0)
    ∷ line (Call.Take 1 0) (no 13)
    ∷ line (Call.Pay 0) (no 23)
    ∷ line (Call.Day 300) (ok 1)
    ∷ line (Call.Pay 0) (no 23)
    ∷ line (Call.Day 300) (ok 2)
    ∷ line (Call.Deposit 1 6_000) (ok 0)
    ∷ line (Call.Pay 0) (ok 0)
    ∷ line (Call.Invoice 0) (no 22)
    ∷ line (Call.HandOver 0) (ok 0)
    ∷ line (Call.HandOver 0) (no 22)
    ∷ line (Call.Invoice 0) (ok 0)
    ∷ line (Call.Invoice 0) (no 22)
    ∷ []

answers : play 0 10 50 300 script ≡ script
unfolding play
answers = refl

ledger : ledger_after 0 10 50 300 script
    ≡ account 0 (pos 6_000) 2 1
    ∷ account 1 (pos 0) 1 1
    ∷ account 2 (pos 0) 0 0
    ∷ receipt 0 0 1 2
    ∷ receipt 1 1 0 0
    ∷ receipt 2 1 0 0
    ∷ receipt 3 0 0 0
    ∷ matched 0 1 0 2 300 3 0
    ∷ fund 0
    ∷ []
unfolding ledger_after
ledger = refl

sums : sums_after 0 10 50 300 script
    ≡ record { deposits = 6_000; withdrawals = 0; traded = 3; cash = pos 6_000; held = 0; in_matches = 2; long = 1; short = 1; entered = pos 6_000 ∷ pos 0 ∷ pos 0 ∷ [] }
unfolding sums_after
sums = refl
