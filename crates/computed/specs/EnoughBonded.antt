-- A first pass with more bonded receipts than overseas units: every overseas buyer is filled, ties in day go by number. Assumes nothing.
use Rattle.std.specs.Prelude.{◌≡◌, refl, List, [], ◌∷◌, ◌++◌, pos}
use Rattle.book.specs.declared.calls.Call.{Call}
use Rattle.computed.specs.Script.{Line, line, ok, closed, play, account, receipt, matched, fund, ledger_after, sums_after, given_by_close}

-- what comes before Close
abbrev front : List Line
front =
    line (Call.Join 1 1) (ok 0)
    ∷ line (Call.Join 0 1) (ok 1)
    ∷ line (Call.Join 0 1) (ok 2)
    ∷ line (Call.Join 1 1) (ok 3)
    ∷ line (Call.Trade 3 2 2) (ok 0)
    ∷ line (Call.Trade 0 1 1) (ok 0)
    ∷ line (Call.Trade 0 2 1) (ok 0)
    ∷ line (Call.Lodge 2 1) (ok 0)
    ∷ line (Call.Lodge 1 1) (ok 1)
    ∷ line (Call.Lodge 2 1) (ok 2)
    ∷ line (Call.Lodge 2 1) (ok 3)
    ∷ line (Call.Lodge 2 1) (ok 4)
    ∷ line (Call.Lodge 1 1) (ok 5)
    ∷ []

abbrev script : List Line
script =
    front
    ++ line (Call.Close 0) (closed 0 0 0)
    ∷ []

answers : play 0 1 10 100 script ≡ script
unfolding play
answers = refl

ledger : ledger_after 0 1 10 100 script
    ≡ account 0 (pos 0) 0 0
    ∷ account 1 (pos 0) 0 0
    ∷ account 2 (pos 0) 0 0
    ∷ account 3 (pos 0) 0 0
    ∷ receipt 0 2 1 1
    ∷ receipt 1 1 1 1
    ∷ receipt 2 2 1 1
    ∷ receipt 3 2 1 1
    ∷ receipt 4 2 1 0
    ∷ receipt 5 1 1 0
    ∷ matched 0 0 1 1 100 0 0
    ∷ matched 1 0 2 1 100 0 0
    ∷ matched 2 3 2 2 100 0 0
    ∷ fund 0
    ∷ []
unfolding ledger_after
ledger = refl

sums : sums_after 0 1 10 100 script
    ≡ record { deposits = 0; withdrawals = 0; traded = 4; cash = pos 0; held = 0; in_matches = 4; long = 0; short = 0; entered = pos 0 ∷ pos 0 ∷ pos 0 ∷ pos 0 ∷ [] }
unfolding sums_after
sums = refl

given : given_by_close 0 1 10 100 front ≡ record { wanted = 4; offered = 4; out = 4; to_each = 2 ∷ 0 ∷ 0 ∷ 2 ∷ [] }
unfolding given_by_close
given = refl
