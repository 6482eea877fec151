-- Close in its three passes: bonded receipts to overseas buyers, equal units, what is left. Assumes nothing.
use Rattle.std.specs.Prelude.{◌≡◌, refl, List, [], ◌∷◌, ◌++◌, pos}
use Rattle.book.specs.declared.calls.Call.{Call}
use Rattle.computed.specs.Script.{Line, line, ok, closed, no, play, owes, account, receipt, matched, fund, ledger_after, sums_after, given_by_close}

-- what comes before Close
abbrev front : List Line
front =
    line (Call.Join 1 1) (ok 0)
    ∷ line (Call.Join 1 1) (ok 1)
    ∷ line (Call.Join 0 1) (ok 2)
    ∷ line (Call.Join 0 1) (ok 3)
    ∷ line (Call.Join 0 1) (ok 4)
    ∷ line (Call.Join 0 1) (ok 5)
    ∷ line (Call.Trade 1 3 3) (ok 0)
    ∷ line (Call.Day 610_000) (ok 1)
    ∷ line (Call.Trade 0 4 4) (ok 0)
    ∷ line (Call.Trade 2 5 2) (ok 0)
    ∷ line (Call.Lodge 3 1) (ok 0)
    ∷ line (Call.Lodge 3 0) (ok 1)
    ∷ line (Call.Lodge 4 1) (ok 2)
    ∷ line (Call.Lodge 4 0) (ok 3)
    ∷ line (Call.Lodge 4 1) (ok 4)
    ∷ line (Call.Lodge 5 1) (ok 5)
    ∷ line (Call.Offer 5 1) (ok 0)
    ∷ line (Call.Deposit 0 100_000_000) (ok 0)
    ∷ line (Call.Deposit 1 10_000_000) (ok 0)
    ∷ []

abbrev script : List Line
script =
    front
    ++ line (Call.Close 0) (closed 3 0 0)
    ∷ line (Call.Day 5) (ok 2)
    ∷ line (Call.Pay 0) (ok 0)
    ∷ line (Call.Pay 1) (ok 0)
    ∷ line (Call.Pay 2) (ok 0)
    ∷ line (Call.Pay 3) (ok 0)
    ∷ line (Call.HandOver 0) (ok 0)
    ∷ line (Call.HandOver 1) (ok 0)
    ∷ line (Call.HandOver 2) (ok 0)
    ∷ line (Call.HandOver 3) (no 22)
    ∷ line (Call.HandOver 6) (no 21)
    ∷ line (Call.Invoice 0) (ok 0)
    ∷ line (Call.Withdraw 0 5) (ok 0)
    ∷ []

answers : play 0 5 20 600_000 script ≡ script
unfolding play
answers = refl

ledger : ledger_after 0 5 20 600_000 script
    ≡ account 0 (pos 96_949_995) 0 0
    ∷ account 1 (pos 850_000) 0 0
    ∷ account 2 (owes 1_220_000) 0 0
    ∷ account 3 (pos 1_830_000) 0 0
    ∷ account 4 (pos 4_880_000) 0 0
    ∷ account 5 (pos 2_440_000) 0 0
    ∷ receipt 0 1 1 0
    ∷ receipt 1 3 0 0
    ∷ receipt 2 1 1 0
    ∷ receipt 3 4 0 1
    ∷ receipt 4 1 1 0
    ∷ receipt 5 0 1 0
    ∷ matched 0 1 3 1 610_000 3 0
    ∷ matched 1 1 4 2 610_000 2 1_220_000
    ∷ matched 2 0 5 1 610_000 2 610_000
    ∷ matched 3 2 3 2 610_000 4 0
    ∷ matched 4 0 4 2 610_000 0 0
    ∷ matched 5 0 5 1 610_000 0 0
    ∷ fund 2_440_000
    ∷ []
unfolding ledger_after
ledger = refl

sums : sums_after 0 5 20 600_000 script
    ≡ record { deposits = 110_000_000; withdrawals = 5; traded = 9; cash = pos 105_729_995; held = 1_830_000; in_matches = 9; long = 0; short = 0; entered = pos 96_949_995 ∷ pos 850_000 ∷ owes 1_220_000 ∷ pos 1_830_000 ∷ pos 4_880_000 ∷ pos 2_440_000 ∷ [] }
unfolding sums_after
sums = refl

given : given_by_close 0 5 20 600_000 front ≡ record { wanted = 7; offered = 4; out = 4; to_each = 1 ∷ 3 ∷ 0 ∷ 0 ∷ 0 ∷ 0 ∷ [] }
unfolding given_by_close
given = refl
