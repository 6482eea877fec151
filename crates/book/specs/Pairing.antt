-- Pairing: a buyer's and a seller's units become a match. Assumes nothing.
use Rattle.std.specs.Prelude.{Bool, List, ℕ, ◌+◌, ◌-◌, eqb, get_or, set}
use Rattle.coal.specs.Choice.{pick}
use Rattle.book.specs.Types.{Stage, Receipt, Match, Book}
use Rattle.book.specs.Counting.{iter}
use Rattle.book.specs.Rows.{blank_receipt, units_off, frozen_for}
use Rattle.book.specs.Tables.{account_at, put_account, add_match, with_receipts, free_at}

-- u units off account k
abbrev pub take_units : Book → ℕ → ℕ → Book
take_units b k u = put_account b k (units_off (account_at b k) u)

-- a match has "buyer, seller, units, price of its day, due day, seller's declared heat at pairing or missing, money held, and a stage"; no vessel is recorded
abbrev pub new_match : Book → ℕ → ℕ → ℕ → ℕ → Match
new_match b buyer seller u days = record { held = 0; loaded = 0; counted = 0; price = b.price; units = u; due = b.day + days; heat = (account_at b seller).heat; buyer = buyer; seller = seller; stage = Stage.Paired; vessels = 0 }

-- a receipt table, and how many receipts are still to be frozen in it
pub record Freezing : Type 0 where
  pub receipts : List Receipt
  pub left : ℕ

-- receipt i of a table is frozen for match j if it is free, the seller's and of the class meant, and one is still to be frozen
unfoldable pub freeze_turn : Bool → ℕ → ℕ → ℕ → Freezing → Freezing
freeze_turn c seller j i t =
    pick (eqb t.left 0) t
    (pick (free_at t.receipts c seller i)
    (record { receipts = set t.receipts i (frozen_for j (get_or t.receipts i blank_receipt)); left = t.left - 1 })
    t)

-- "freezes the seller's lowest-numbered free receipts, as many as the units or as there are"; c says of which class
unfoldable pub freeze : Book → Bool → ℕ → ℕ → ℕ → Book
freeze b c seller j u =
    with_receipts b
    (iter b.receipt_count 0 (freeze_turn c seller j) (record { receipts = b.receipts; left = u })).receipts
    b.receipt_count

-- "Pairing takes the units off both sides": u units of buyer and seller are the next match, due in some days, with no receipt frozen yet
abbrev pub taken : Book → ℕ → ℕ → ℕ → ℕ → Book
taken b days buyer seller u = take_units (take_units (add_match b (new_match b buyer seller u days)) buyer u) seller u

-- "In a receipts book it freezes the seller's lowest-numbered free receipts": c says of which class
unfoldable pub pair : Book → Bool → ℕ → ℕ → ℕ → ℕ → Book
pair b c days buyer seller u =
    pick b.board (taken b days buyer seller u) (freeze (taken b days buyer seller u) c seller b.match_count u)
