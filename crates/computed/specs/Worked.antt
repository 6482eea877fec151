-- The worked session of document 01, with document 02's Hand over as its last line: its answers and its ledger. Assumes nothing.
use Rattle.std.specs.Prelude.{◌≡◌, refl, List, [], ◌∷◌, ◌++◌, pos}
use Rattle.book.specs.declared.calls.Call.{Call}
use Rattle.computed.specs.Script.{Line, line, ok, closed, play, account, receipt, matched, fund, ledger_after, sums_after, given_by_close}

-- what comes before Close
abbrev front : List Line
front =
    line (Call.Join 0 1) (ok 0)
    ∷ line (Call.Join 1 1) (ok 1)
    ∷ line (Call.Deposit 1 7_000_000) (ok 0)
    ∷ line (Call.Trade 1 0 2) (ok 0)
    ∷ line (Call.Lodge 0 1) (ok 0)
    ∷ line (Call.Lodge 0 0) (ok 1)
    ∷ []

abbrev script : List Line
script =
    front
    ++ line (Call.Close 0) (closed 1 0 0)
    ∷ line (Call.Day 610_000) (ok 1)
    ∷ line (Call.Pay 0) (ok 0)
    ∷ line (Call.HandOver 0) (ok 0)
    ∷ []

answers : play 0 5 20 600_000 script ≡ script
unfolding play
answers = refl

ledger : ledger_after 0 5 20 600_000 script
    ≡ account 0 (pos 2_400_000) 0 0
    ∷ account 1 (pos 4_000_000) 0 0
    ∷ receipt 0 1 1 0
    ∷ receipt 1 0 0 1
    ∷ matched 0 1 0 1 600_000 2 600_000
    ∷ matched 1 1 0 1 600_000 0 0
    ∷ fund 0
    ∷ []
unfolding ledger_after
ledger = refl

sums : sums_after 0 5 20 600_000 script
    ≡ record { deposits = 7_000_000; withdrawals = 0; traded = 2; cash = pos 6_400_000; held = 600_000; in_matches = 2; long = 0; short = 0; entered = pos 2_400_000 ∷ pos 4_000_000 ∷ [] }
unfolding sums_after
sums = refl

given : given_by_close 0 5 20 600_000 front ≡ record { wanted = 2; offered = 1; out = 1; to_each = 0 ∷ 1 ∷ [] }
unfolding given_by_close
given = refl
