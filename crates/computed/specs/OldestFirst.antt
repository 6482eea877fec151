-- The first pass takes lots of overseas buyers by day, then account number, and gives bonded receipts only. Assumes nothing.
use Rattle.std.specs.Prelude.{◌≡◌, refl, List, [], ◌∷◌, ◌++◌, pos}
use Rattle.book.specs.declared.calls.Call.{Call}
use Rattle.computed.specs.Script.{Line, line, ok, closed, no, play, account, receipt, matched, fund, ledger_after, sums_after, given_by_close}

-- what comes before Close
abbrev front : List Line
front =
    line (Call.Join 1 1) (ok 0)
    ∷ line (Call.Join 1 1) (ok 1)
    ∷ line (Call.Join 1 1) (ok 2)
    ∷ line (Call.Join 0 1) (ok 3)
    ∷ line (Call.Join 0 1) (ok 4)
    ∷ line (Call.Join 0 1) (ok 5)
    ∷ line (Call.Day 100) (ok 1)
    ∷ line (Call.Trade 2 4 3) (ok 0)
    ∷ line (Call.Day 100) (ok 2)
    ∷ line (Call.Trade 1 4 2) (ok 0)
    ∷ line (Call.Trade 0 5 2) (ok 0)
    ∷ line (Call.Trade 3 5 1) (ok 0)
    ∷ line (Call.Lodge 5 1) (ok 0)
    ∷ line (Call.Lodge 4 0) (ok 1)
    ∷ line (Call.Lodge 4 1) (ok 2)
    ∷ line (Call.Lodge 5 0) (ok 3)
    ∷ line (Call.Lodge 4 1) (ok 4)
    ∷ line (Call.Lodge 5 1) (ok 5)
    ∷ line (Call.Lodge 4 0) (ok 6)
    ∷ []

abbrev script : List Line
script =
    front
    ++ line (Call.Close 0) (closed 3 0 0)
    ∷ line (Call.Close 0) (no 5)
    ∷ []

answers : play 0 1 10 100 script ≡ script
unfolding play
answers = refl

ledger : ledger_after 0 1 10 100 script
    ≡ account 0 (pos 0) 0 0
    ∷ account 1 (pos 0) 0 0
    ∷ account 2 (pos 0) 0 0
    ∷ account 3 (pos 0) 0 0
    ∷ account 4 (pos 0) 0 0
    ∷ account 5 (pos 0) 0 0
    ∷ receipt 0 5 1 1
    ∷ receipt 1 4 0 1
    ∷ receipt 2 4 1 1
    ∷ receipt 3 5 0 1
    ∷ receipt 4 4 1 1
    ∷ receipt 5 5 1 1
    ∷ receipt 6 4 0 1
    ∷ matched 0 2 4 2 100 0 0
    ∷ matched 1 2 5 1 100 0 0
    ∷ matched 2 0 5 1 100 0 0
    ∷ matched 3 0 5 1 100 0 0
    ∷ matched 4 1 4 2 100 0 0
    ∷ matched 5 3 4 1 100 0 0
    ∷ fund 0
    ∷ []
unfolding ledger_after
ledger = refl

sums : sums_after 0 1 10 100 script
    ≡ record { deposits = 0; withdrawals = 0; traded = 8; cash = pos 0; held = 0; in_matches = 8; long = 0; short = 0; entered = pos 0 ∷ pos 0 ∷ pos 0 ∷ pos 0 ∷ pos 0 ∷ pos 0 ∷ [] }
unfolding sums_after
sums = refl

given : given_by_close 0 1 10 100 front ≡ record { wanted = 7; offered = 4; out = 4; to_each = 1 ∷ 0 ∷ 3 ∷ 0 ∷ 0 ∷ 0 ∷ [] }
unfolding given_by_close
given = refl
