-- Join, Deposit, Withdraw, Trade and Day, with their refusals from both sides: 1, 5 to 11. Assumes nothing.
use Rattle.std.specs.Prelude.{◌≡◌, refl, List, [], ◌∷◌, pos}
use Rattle.book.specs.declared.calls.Call.{Call}
use Rattle.computed.specs.Script.{Line, line, ok, closed, no, play, account, matched, fund, ledger_after, sums_after}

abbrev script : List Line
script =
    line (Call.Join 2 0) (no 8)
    ∷ line (Call.Join 0 2) (no 8)
    ∷ line (Call.Join 0 1) (ok 0)
    ∷ line (Call.Join 1 0) (ok 1)
    ∷ line (Call.Join 1 1) (ok 2)
    ∷ line (Call.Deposit 3 1) (no 6)
    ∷ line (Call.Deposit 0 0) (no 8)
    ∷ line (Call.Deposit 0 1_000_000_000_000_001) (no 8)
    ∷ line (Call.Deposit 0 1_000_000_000_000_000) (ok 0)
    ∷ line (Call.Withdraw 3 1) (no 6)
    ∷ line (Call.Withdraw 0 0) (no 8)
    ∷ line (Call.Withdraw 0 1_000_000_000_000_001) (no 8)
    ∷ line (Call.Withdraw 1 1) (no 11)
    ∷ line (Call.Deposit 1 5) (ok 0)
    ∷ line (Call.Withdraw 1 6) (no 11)
    ∷ line (Call.Withdraw 1 5) (ok 0)
    ∷ line (Call.Day 0) (no 1)
    ∷ line (Call.Day 1_000_001) (no 1)
    ∷ line (Call.Day 1_000_000) (ok 1)
    ∷ line (Call.Day 1) (ok 2)
    ∷ line (Call.Trade 3 0 1) (no 6)
    ∷ line (Call.Trade 0 3 1) (no 6)
    ∷ line (Call.Trade 0 0 1) (no 7)
    ∷ line (Call.Trade 0 1 0) (no 8)
    ∷ line (Call.Trade 0 1 1_001) (no 8)
    ∷ line (Call.Trade 0 1 1) (ok 0)
    ∷ line (Call.Trade 1 2 1) (no 9)
    ∷ line (Call.Trade 2 0 1) (no 9)
    ∷ line (Call.Trade 0 1 1_000) (no 10)
    ∷ line (Call.Trade 0 1 999) (ok 0)
    ∷ line (Call.Trade 2 1 1) (no 10)
    ∷ line (Call.Trade 0 2 1) (no 10)
    ∷ line (Call.Close 0) (closed 1 0 0)
    ∷ line (Call.Trade 0 1 1) (no 5)
    ∷ line (Call.Close 0) (no 5)
    ∷ line (Call.Offer 1 1) (no 5)
    ∷ line (Call.Retract 1) (no 5)
    ∷ line (Call.Take 0 1) (no 5)
    ∷ []

answers : play 0 10 0 1_000_000 script ≡ script
unfolding play
answers = refl

ledger : ledger_after 0 10 0 1_000_000 script
    ≡ account 0 (pos 1_000_000_000_000_000) 0 0
    ∷ account 1 (pos 0) 0 0
    ∷ account 2 (pos 0) 0 0
    ∷ matched 0 0 1 1_000 1 0 0
    ∷ fund 0
    ∷ []
unfolding ledger_after
ledger = refl

sums : sums_after 0 10 0 1_000_000 script
    ≡ record { deposits = 1_000_000_000_000_005; withdrawals = 5; traded = 1_000; cash = pos 1_000_000_000_000_000; held = 0; in_matches = 1_000; long = 0; short = 0; entered = pos 1_000_000_000_000_000 ∷ pos 0 ∷ pos 0 ∷ [] }
unfolding sums_after
sums = refl
