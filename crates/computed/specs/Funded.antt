-- Between Pay and Hand over: V is held, the receipts are frozen and the seller's, and every other call on the match is refused; Hand over asks no day and
-- pays 80%, down, of the price of the match's day. Assumes nothing.
use Rattle.std.specs.Prelude.{◌≡◌, refl, List, [], ◌∷◌, ◌++◌, pos}
use Rattle.book.specs.declared.calls.Call.{Call}
use Rattle.computed.specs.Script.{Line, line, ok, closed, no, play, account, receipt, matched, fund, ledger_after, sums_after}

-- both matches are paid
abbrev morning : List Line
morning =
    line (Call.Join 0 1) (ok 0)
    ∷ line (Call.Join 0 1) (ok 1)
    ∷ line (Call.Join 1 1) (ok 2)
    ∷ line (Call.Deposit 1 21) (ok 0)
    ∷ line (Call.Deposit 2 7) (ok 0)
    ∷ line (Call.Trade 1 0 3) (ok 0)
    ∷ line (Call.Trade 2 0 1) (ok 0)
    ∷ line (Call.Lodge 0 0) (ok 0)
    ∷ line (Call.Lodge 0 0) (ok 1)
    ∷ line (Call.Lodge 0 0) (ok 2)
    ∷ line (Call.Lodge 0 1) (ok 3)
    ∷ line (Call.Close 0) (closed 1 0 0)
    ∷ line (Call.HandOver 0) (no 22)
    ∷ line (Call.HandOver 2) (no 21)
    ∷ line (Call.Pay 0) (no 23)
    ∷ line (Call.Day 9) (ok 1)
    ∷ line (Call.Pay 0) (ok 0)
    ∷ line (Call.Pay 1) (ok 0)
    ∷ []

-- one of them is handed over, two days later
abbrev afternoon : List Line
afternoon =
    line (Call.Pay 1) (no 22)
    ∷ line (Call.Invoice 1) (no 22)
    ∷ line (Call.Strike 0 1) (no 18)
    ∷ line (Call.Day 1_000) (ok 2)
    ∷ line (Call.Day 1) (ok 3)
    ∷ line (Call.HandOver 1) (ok 0)
    ∷ line (Call.HandOver 1) (no 22)
    ∷ line (Call.Strike 1 1) (ok 0)
    ∷ line (Call.Invoice 1) (ok 0)
    ∷ line (Call.HandOver 1) (no 22)
    ∷ []

answers : play 0 1 20 7 (morning ++ afternoon) ≡ morning ++ afternoon
unfolding play
answers = refl

funded : ledger_after 0 1 20 7 morning
    ≡ account 0 (pos 0) 0 0
    ∷ account 1 (pos 0) 0 0
    ∷ account 2 (pos 0) 0 0
    ∷ receipt 0 0 0 1
    ∷ receipt 1 0 0 1
    ∷ receipt 2 0 0 1
    ∷ receipt 3 0 1 1
    ∷ matched 0 2 0 1 7 5 7
    ∷ matched 1 1 0 3 7 5 21
    ∷ fund 0
    ∷ []
unfolding ledger_after
funded = refl

handed : ledger_after 0 1 20 7 (morning ++ afternoon)
    ≡ account 0 (pos 21) 0 0
    ∷ account 1 (pos 0) 0 0
    ∷ account 2 (pos 0) 0 0
    ∷ receipt 0 1 0 0
    ∷ receipt 1 1 0 2
    ∷ receipt 2 1 0 0
    ∷ receipt 3 0 1 1
    ∷ matched 0 2 0 1 7 5 7
    ∷ matched 1 1 0 3 7 3 0
    ∷ fund 0
    ∷ []
unfolding ledger_after
handed = refl

-- 16 of the 21 at Hand over, the rest at Invoice
parts : ledger_after 0 1 20 7 (morning ++ line (Call.HandOver 1) (ok 0) ∷ [])
    ≡ account 0 (pos 16) 0 0
    ∷ account 1 (pos 0) 0 0
    ∷ account 2 (pos 0) 0 0
    ∷ receipt 0 1 0 0
    ∷ receipt 1 1 0 0
    ∷ receipt 2 1 0 0
    ∷ receipt 3 0 1 1
    ∷ matched 0 2 0 1 7 5 7
    ∷ matched 1 1 0 3 7 2 5
    ∷ fund 0
    ∷ []
unfolding ledger_after
parts = refl

-- "The sums over accounts, held money and fund include funded matches"
sums : sums_after 0 1 20 7 morning
    ≡ record { deposits = 28; withdrawals = 0; traded = 4; cash = pos 0; held = 28; in_matches = 4; long = 0; short = 0; entered = pos 0 ∷ pos 0 ∷ pos 0 ∷ [] }
unfolding sums_after
sums = refl

sums_handed : sums_after 0 1 20 7 (morning ++ afternoon)
    ≡ record { deposits = 28; withdrawals = 0; traded = 4; cash = pos 21; held = 7; in_matches = 4; long = 0; short = 0; entered = pos 21 ∷ pos 0 ∷ pos 0 ∷ [] }
unfolding sums_after
sums_handed = refl
