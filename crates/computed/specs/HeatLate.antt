-- A match keeps the heat that its seller had declared at pairing: a later Declare cures nothing, and cash equal to V is no fault. Assumes nothing.
use Rattle.std.specs.Prelude.{◌≡◌, refl, List, [], ◌∷◌, pos}
use Rattle.book.specs.declared.calls.Call.{Call}
use Rattle.computed.specs.Script.{Line, line, ok, closed, no, play, owes, account, matched, fund, ledger_after, sums_after}

abbrev script : List Line
script =
    line (Call.Join 0 1) (ok 0)
    ∷ line (Call.Join 0 1) (ok 1)
    ∷ line (Call.Join 0 1) (ok 2)
    ∷ line (Call.Trade 1 0 1) (ok 0)
    ∷ line (Call.Trade 1 2 2) (ok 0)
    ∷ line (Call.Declare 2 5_500) (ok 0)
    ∷ line (Call.Close 0) (closed 2 0 0)
    ∷ line (Call.Declare 0 5_500) (ok 0)
    ∷ line (Call.Deposit 1 240) (ok 0)
    ∷ line (Call.Day 80) (ok 1)
    ∷ line (Call.Pay 0) (ok 0)
    ∷ line (Call.Pay 1) (ok 0)
    ∷ line (Call.Terminate 0 2) (no 22)
    ∷ line (Call.Terminate 1 2) (ok 0)
    ∷ []

answers : play 1 1 40 80 script ≡ script
unfolding play
answers = refl

ledger : ledger_after 1 1 40 80 script
    ≡ account 0 (owes 32) 0 0
    ∷ account 1 (pos 208) 0 0
    ∷ account 2 (owes 64) 0 0
    ∷ matched 0 1 0 1 80 4 0
    ∷ matched 1 1 2 2 80 4 0
    ∷ fund 128
    ∷ []
unfolding ledger_after
ledger = refl

sums : sums_after 1 1 40 80 script
    ≡ record { deposits = 240; withdrawals = 0; traded = 3; cash = pos 112; held = 0; in_matches = 3; long = 0; short = 0; entered = owes 32 ∷ pos 208 ∷ owes 64 ∷ [] }
unfolding sums_after
sums = refl
