-- What the functions of Close ask and answer. Assumes nothing.
use Rattle.std.specs.Prelude.{◌≡◌, Bool, List, [], ◌∷◌, map, ℕ, ◌+◌, ◌≤◌, ◌<◌, length, get_or, set, eqb, Option, Some, None}
use Rattle.coal.specs.Choice.{pick}
use Rattle.book.specs.declared.accounts.Account.{Account}
use Rattle.book.specs.declared.accounts.Side.{Side}
use Rattle.book.specs.declared.tables.Book.{Book}
use Rattle.book.specs.declared.tables.Listed.{Listed}
use Rattle.book.specs.declared.tables.Pair.{Pair}
use Rattle.book.specs.Counting.{All, those}
use Rattle.book.specs.Rows.{blank_account, is_on, bonded_only, any_class, with_offer, units_off}
use Rattle.book.specs.Tables.{account_at, free_receipts}
use Rattle.book.specs.Closing.{pair_all}
use Rattle.closing.specs.declared.Queue.{Queue}
use Rattle.book.proofs.laws.Walking.{left_of}

-- what a pairing asks of a book, but for room; between the passes a book is no month's
pub record Ready (b : Book) : Type 0 where
  pub price_few : b.price ≤ 1_000_000
  pub day_few : b.day ≤ 1_000
  pub accounts_few : b.account_count ≤ 32
  pub receipts_few : b.receipt_count ≤ 256

-- account k of a table, listed with its units
abbrev pub listed_at : List Account → ℕ → Listed
listed_at l k = record { account = k; left = (get_or l k blank_account).units; day = 0 }

-- those of a table's accounts that are on a side, by number, with their units: `buyers` and `sellers`
unfoldable pub on_side : List Account → Side → List Listed
on_side l s = map (listed_at l) (those (length l) 0 (λ k. is_on s (get_or l k blank_account).side))

-- whether account k is on a side, and its units there
abbrev pub is_on_side : Book → Side → ℕ → Bool
is_on_side b s k = is_on s (account_at b k).side

abbrev pub units_on : Book → Side → ℕ → ℕ
units_on b s k = pick (is_on_side b s k) (account_at b k).units 0

-- the free bonded receipts of each account
pub record Bonded (b : Book) (r : List ℕ) : Type 0 where
  pub each : (k : ℕ) → k < 32 → get_or r k 0 ≡ free_receipts b bonded_only k

-- it is the number of a cell
abbrev pub There : Listed → Type 0
There x = x.account < 32

-- both are
abbrev pub Ends : Pair → Type 0
Ends p = (p.buyer < 32) × (p.seller < 32)

-- "takes the units off both sides"
abbrev pub both_off : List Account → ℕ → ℕ → ℕ → List Account
both_off l buyer seller u =
    let once = set l buyer (units_off (get_or l buyer blank_account) u) in
    set once seller (units_off (get_or once seller blank_account) u)

-- these pairs, and these accounts, are what makes book e of book b
pub record Drafts (b : Book) (ps : List Pair) (l : List Account) (e : Book) : Type 0 where
  pub pairs : pair_all any_class ps b ≡ e
  pub accounts : l ≡ e.accounts
  pub there : All Ends ps

-- no account is listed with more units than it may have
abbrev pub Small : List Listed → Type 0
Small l = (k : ℕ) → left_of k l ≤ 1_000

-- an account whose offer has ended
abbrev pub without_offer : Account → Account
without_offer a = with_offer a None

-- two lots of one account as one
abbrev pub both : Listed → Listed → Listed
both x y = record { account = x.account; left = x.left + y.left; day = y.day }

-- a lot behind those of a list: as one with the last, where that is the same account's
unfoldable pub add_lot : List Listed → Listed → List Listed
add_lot [] y = y ∷ []
add_lot (x ∷ []) y = pick (eqb x.account y.account) (both x y ∷ []) (x ∷ y ∷ [])
add_lot (x ∷ z ∷ l) y = x ∷ add_lot (z ∷ l) y

-- the list that a queue is
abbrev pub queued : Option Queue → List Listed
queued None = []
queued (Some q) = q.front ∷ q.behind.now
