-- The places of lots: a trade on the newest lot's day adds to it, one that would need a fifth opening day of the buyer or of the seller is refused,
-- after 10, and Take frees a place once it has used up the oldest lot. Assumes nothing.
use Rattle.std.specs.Prelude.{◌≡◌, refl, List, [], ◌∷◌, ℕ}
use Rattle.book.specs.declared.calls.Call.{Call}
use Rattle.book.specs.declared.accounts.Lot.{Lot}
use Rattle.book.specs.Rows.{lots_of}
use Rattle.book.specs.Tables.{account_at}
use Rattle.book.specs.Lists.{after}
use Rattle.computed.specs.Script.{Line, line, ok, no, calls, book_of, play}

abbrev script : List Line
script =
    line (Call.Join 0 1) (ok 0)
    ∷ line (Call.Join 0 1) (ok 1)
    ∷ line (Call.Join 0 1) (ok 2)
    ∷ line (Call.Join 0 1) (ok 3)
    ∷ line (Call.Declare 1 5_000) (ok 0)
    ∷ line (Call.Trade 0 1 2) (ok 0)
    ∷ line (Call.Day 100) (ok 1)
    ∷ line (Call.Trade 0 1 1) (ok 0)
    ∷ line (Call.Trade 0 1 1) (ok 0)
    ∷ line (Call.Day 100) (ok 2)
    ∷ line (Call.Trade 0 1 1) (ok 0)
    ∷ line (Call.Day 100) (ok 3)
    ∷ line (Call.Trade 0 1 1) (ok 0)
    ∷ line (Call.Trade 0 1 1) (ok 0)
    ∷ line (Call.Day 100) (ok 4)
    ∷ line (Call.Trade 0 1 1) (no 28)
    ∷ line (Call.Trade 0 3 1) (no 28)
    ∷ line (Call.Trade 2 1 1) (no 28)
    ∷ line (Call.Trade 0 1 993) (no 28)
    ∷ line (Call.Trade 0 1 994) (no 10)
    ∷ line (Call.Trade 2 3 1) (ok 0)
    ∷ line (Call.Offer 1 1) (ok 0)
    ∷ line (Call.Take 0 1) (ok 0)
    ∷ line (Call.Trade 0 1 1) (no 28)
    ∷ line (Call.Offer 1 2) (ok 0)
    ∷ line (Call.Take 0 1) (ok 1)
    ∷ line (Call.Trade 0 1 1) (ok 0)
    ∷ []

answers : play 1 1 10 100 script ≡ script
unfolding play
answers = refl

abbrev lot : ℕ → ℕ → Lot
lot d u = record { day = d; units = u }

-- of both parties
bought : lots_of (account_at (after (book_of 1 1 10 100) (calls script)) 0) ≡ lot 1 1 ∷ lot 2 1 ∷ lot 3 2 ∷ lot 4 1 ∷ []
unfolding play after
bought = refl

sold : lots_of (account_at (after (book_of 1 1 10 100) (calls script)) 1) ≡ lot 1 1 ∷ lot 2 1 ∷ lot 3 2 ∷ lot 4 1 ∷ []
unfolding play after
sold = refl
