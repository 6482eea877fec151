-- Lots: a trade on the newest lot's day adds to it, a fifth opening day is refused, Take uses up the oldest, and the first pass goes by lots, whose
-- neighbours of one pair are one match. Assumes nothing.
use Rattle.std.specs.Prelude.{◌≡◌, refl, List, [], ◌∷◌, ◌++◌, map, ℕ, pos}
use Rattle.book.specs.declared.calls.Call.{Call}
use Rattle.book.specs.declared.accounts.Lot.{Lot}
use Rattle.book.specs.Rows.{lots_of}
use Rattle.book.specs.Tables.{account_at}
use Rattle.book.specs.Calls.{step}
use Rattle.book.specs.Lists.{after}
use Rattle.book.specs.Demand3.{counts_for, lot_gave}
use Rattle.computed.specs.Script.{Line, line, ok, closed, no, calls, book_of, play, account, receipt, matched, fund, ledger_after, given_by_close}

-- what comes before Close
abbrev front : List Line
front =
    line (Call.Join 1 1) (ok 0)
    ∷ line (Call.Join 1 1) (ok 1)
    ∷ line (Call.Join 0 1) (ok 2)
    ∷ line (Call.Join 0 1) (ok 3)
    ∷ line (Call.Join 0 1) (ok 4)
    ∷ line (Call.Trade 0 2 1) (ok 0)
    ∷ line (Call.Trade 0 2 2) (ok 0)
    ∷ line (Call.Day 100) (ok 1)
    ∷ line (Call.Trade 0 3 1) (ok 0)
    ∷ line (Call.Trade 1 3 2) (ok 0)
    ∷ line (Call.Day 100) (ok 2)
    ∷ line (Call.Trade 0 2 2) (ok 0)
    ∷ line (Call.Day 100) (ok 3)
    ∷ line (Call.Trade 0 2 1) (ok 0)
    ∷ line (Call.Day 100) (ok 4)
    ∷ line (Call.Trade 0 2 1) (no 28)
    ∷ line (Call.Trade 4 2 1) (ok 0)
    ∷ line (Call.Lodge 3 0) (ok 0)
    ∷ line (Call.Offer 3 1) (ok 0)
    ∷ line (Call.Take 0 3) (ok 0)
    ∷ line (Call.Lodge 2 1) (ok 1)
    ∷ line (Call.Lodge 2 1) (ok 2)
    ∷ line (Call.Lodge 2 1) (ok 3)
    ∷ line (Call.Lodge 2 1) (ok 4)
    ∷ line (Call.Lodge 2 1) (ok 5)
    ∷ line (Call.Lodge 2 1) (ok 6)
    ∷ line (Call.Lodge 2 0) (ok 7)
    ∷ line (Call.Trade 0 2 1) (no 28)
    ∷ []

abbrev script : List Line
script =
    front
    ++ line (Call.Close 0) (closed 2 0 0)
    ∷ line (Call.Close 0) (no 5)
    ∷ []

answers : play 0 1 10 100 script ≡ script
unfolding play
answers = refl

abbrev lot : ℕ → ℕ → Lot
lot d u = record { day = d; units = u }

-- the lots before Close
lots : lots_of (account_at (after (book_of 0 1 10 100) (calls front)) 0) ≡ lot 0 2 ∷ lot 1 1 ∷ lot 2 2 ∷ lot 3 1 ∷ []
unfolding play after
lots = refl

ledger : ledger_after 0 1 10 100 script
    ≡ account 0 (pos 0) 0 0
    ∷ account 1 (pos 0) 0 0
    ∷ account 2 (pos 0) 0 0
    ∷ account 3 (pos 0) 0 0
    ∷ account 4 (pos 0) 0 0
    ∷ receipt 0 3 0 1
    ∷ receipt 1 2 1 1
    ∷ receipt 2 2 1 1
    ∷ receipt 3 2 1 1
    ∷ receipt 4 2 1 1
    ∷ receipt 5 2 1 1
    ∷ receipt 6 2 1 1
    ∷ receipt 7 2 0 1
    ∷ matched 0 0 3 1 100 0 0
    ∷ matched 1 0 2 3 100 0 0
    ∷ matched 2 1 2 2 100 0 0
    ∷ matched 3 0 2 1 100 0 0
    ∷ matched 4 0 3 2 100 0 0
    ∷ matched 5 4 2 1 100 0 0
    ∷ fund 0
    ∷ []
unfolding ledger_after
ledger = refl

given : given_by_close 0 1 10 100 front ≡ record { wanted = 8; offered = 6; out = 6; to_each = 4 ∷ 2 ∷ 0 ∷ 0 ∷ 0 ∷ [] }
unfolding given_by_close
given = refl

-- what the first pass gave each lot of the two overseas buyers
by_lot : let b = after (book_of 0 1 10 100) (calls front) in let e = (step b (Call.Close 0)).book in map (lot_gave b e 0) (0 ∷ 1 ∷ 2 ∷ 3 ∷ []) ++ map (lot_gave b e 1) (0 ∷ 1 ∷ 2 ∷ 3 ∷ []) ≡ 2 ∷ 1 ∷ 1 ∷ 0 ∷ 0 ∷ 0 ∷ 0 ∷ 2 ∷ []
unfolding play after given_by_close counts_for
by_lot = refl
