-- What the money of a match asks for: bounds of what is paid, room for it in every account's cash and in the fund, and what is known of a match that is settled. Assumes nothing.
use Rattle.std.specs.Prelude.{◌≡◌, ℕ, ◌+◌, ◌*◌, ◌≤◌, ◌<◌, nat_abs, Option, Some, None}
use Rattle.book.specs.declared.tables.Book.{Book}
use Rattle.book.specs.Rows.{heat_value}
use Rattle.book.specs.Tables.{account_at, match_at, with_fund, pay, charge}
use Rattle.book.specs.Settlement.{value, weight_due}
use Rattle.payments.specs.declared.valued.ValuedMatch.{ValuedMatch}

-- ---- amounts, in fen

-- a bound of what is paid at once
abbrev pub most_paid : ℕ
most_paid = 1_000_000_000_000_000

-- the cash, either way, to which that much can be added
abbrev pub most_cash : ℕ
most_cash = 2_000_000_000_000_000_000

-- ---- room for payments

-- n payments within that bound fit, in every account's cash and in the fund
pub record Room (n : ℕ) (b : Book) : Type 0 where
  pub cash : (k : ℕ) → nat_abs (account_at b k).cash + n * most_paid ≤ most_cash
  pub fund : b.fund + n * most_paid ≤ most_cash

-- "One at fault pays the other; two at fault each pay the fund": account k pays x to another, or to the fund
unfoldable pub fined : Option ℕ → Book → ℕ → ℕ → Book
fined (Some i) b k x = pay (charge b k x) i x
fined None b k x = with_fund (charge b k x) (b.fund + x)

-- ---- a match and what it is worth

-- match j of a book, with its worth
abbrev pub valued : Book → ℕ → ValuedMatch
valued b j = record { number = j; row = match_at b j; value = value b (match_at b j) }

-- the parties of a match are numbers of rows, and it is worth its value
pub record Deal (b : Book) (m : ValuedMatch) : Type 0 where
  pub buyer_there : m.row.buyer < 32
  pub seller_there : m.row.seller < 32
  pub worth : m.value ≡ value b m.row

-- what settling a match of a book asks for
pub record Due (b : Book) (m : ValuedMatch) : Type 0 where
  pub receipts_few : b.receipt_count ≤ 256
  pub rate_few : b.rate ≤ 100
  pub tonnes_few : b.tonnes ≤ 20_000
  pub units_few : m.row.units ≤ 1_000
  pub price_few : m.row.price ≤ 1_000_000
  pub heat_few : heat_value m.row.heat ≤ 10_000
  pub row : m.row ≡ match_at b m.number
  pub loaded_few : m.row.loaded ≤ weight_due b m.row
  pub vessels_few : m.row.vessels ≤ 7
  pub counted_few : m.row.counted ≤ 22_000_000_000_000
  pub deal : Deal b m
  pub room : Room 8 b

-- what handing over a match of a book asks for
pub record Handing (b : Book) (m : ValuedMatch) : Type 0 where
  pub receipts_few : b.receipt_count ≤ 256
  pub seller_there : m.row.seller < 32
  pub room : Room 1 b
