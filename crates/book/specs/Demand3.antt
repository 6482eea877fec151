-- Demand 3, the statement, in the words of document 01, "Lists", and on older positions in those of document 02, Job 5. Assumes nothing.
use Rattle.std.specs.Prelude.{◌≡◌, Bool, true, false, ◌&&◌, List, [], ◌∷◌, ◌++◌, ℕ, zero, suc, ◌+◌, ◌-◌, ◌≤◌, ◌<◌, min, eqb, ℤ, pos, ◌+ℤ◌, ◌-ℤ◌, get_or}
use Rattle.heats.specs.HeatTables.{IsHeatTable}
use Rattle.coal.specs.Choice.{pick}
use Rattle.book.specs.Types.{ReceiptState, Lot, Book, Call}
use Rattle.book.specs.Counting.{sum, total, tally}
use Rattle.book.specs.Rows.{no_lot, lots_of, is_free, long_units, short_units, bonded_only, has_frozen}
use Rattle.book.specs.Tables.{account_at, receipt_at, match_at, free_receipts, frozen_receipts}
use Rattle.book.specs.Answers.{is_accepted}
use Rattle.book.specs.Opening.{opening}
use Rattle.book.specs.Closing.{is_overseas_buyer, is_seller}
use Rattle.book.specs.Calls.{step}
use Rattle.book.specs.Lists.{after, accepts, deposits_accepted, withdrawals_accepted, units_traded, account_entries}

-- ---- sums over a book: "Accounts, money held, fund, receipts and units are those of the book after the list."

-- "Cash of all accounts"
unfoldable pub total_cash : Book → ℤ
total_cash b = total b.account_count 0 (λ k. (account_at b k).cash)

-- "all money held for matches"
unfoldable pub total_held : Book → ℕ
total_held b = sum b.match_count 0 (λ j. (match_at b j).held)

-- "Units in matches counts matches of every stage"
unfoldable pub units_in_matches : Book → ℕ
units_in_matches b = sum b.match_count 0 (λ j. (match_at b j).units)

-- "units long and units short are those of all accounts on that side"
unfoldable pub units_long : Book → ℕ
units_long b = sum b.account_count 0 (λ k. long_units (account_at b k))

unfoldable pub units_short : Book → ℕ
units_short b = sum b.account_count 0 (λ k. short_units (account_at b k))

-- ---- an accepted Close: "take the machine's book just before it", b, and just after it, e

-- "The overseas units open are the units of the overseas accounts that are long."
unfoldable pub overseas_units_open : Book → ℕ
overseas_units_open b = sum b.account_count 0 (λ k. pick (is_overseas_buyer b k) (account_at b k).units 0)

-- "The bonded units offered are, added up over the accounts that are short, the lesser of its units and its free bonded receipts;
-- in a board book that is 0."
unfoldable pub bonded_units_offered : Book → ℕ
bonded_units_offered b =
    pick b.board 0
    (sum b.account_count 0 (λ k. pick (is_seller b k) (min (account_at b k).units (free_receipts b bonded_only k)) 0))

-- a receipt in this state is frozen for a match of buyer k
abbrev pub frozen_for_buyer : Book → ℕ → ReceiptState → Bool
frozen_for_buyer e k ReceiptState.Free = false
frozen_for_buyer e k (ReceiptState.Frozen j) = eqb (match_at e j).buyer k
frozen_for_buyer e k ReceiptState.Struck = false

-- "What the first pass gave an overseas buyer is the units that it paired for it, counted by the bonded receipts that are free just before this
-- Close and frozen for that buyer's matches just after it"
unfoldable pub gave : Book → Book → ℕ → ℕ
gave b e k =
    tally b.receipt_count 0
    (λ i. (receipt_at b i).bonded && is_free (receipt_at b i).state && frozen_for_buyer e k (receipt_at e i).state)

-- "What the pass gave out is the sum of this over the overseas buyers."
unfoldable pub gave_out : Book → Book → ℕ
gave_out b e = sum b.account_count 0 (λ k. pick (is_overseas_buyer b k) (gave b e k) 0)

-- lot i of account k, counted from the oldest
abbrev pub lot_at : Book → ℕ → ℕ → Lot
lot_at b k i = get_or (lots_of (account_at b k)) i no_lot

-- of g units that count for these lots oldest first, those that count for lot i
unfoldable pub counts_for : ℕ → List Lot → ℕ → ℕ
counts_for g [] i = 0
counts_for g (x ∷ xs) zero = min g x.units
counts_for g (x ∷ xs) (suc i) = counts_for (g - x.units) xs i

-- "what the first pass gave a buyer counts for its lots oldest first": what it gave lot i of account k
abbrev pub lot_gave : Book → Book → ℕ → ℕ → ℕ
lot_gave b e k i = counts_for (gave b e k) (lots_of (account_at b k)) i

-- account k is an overseas account that is long in book b
pub record OverseasBuyer (b : Book) (k : ℕ) : Type 0 where
  pub there : k < b.account_count
  pub overseas_and_long : is_overseas_buyer b k ≡ true

pub record FirstPass (b e : Book) : Type 0 where
  -- "its first pass gave out exactly the lesser of the overseas units open and the bonded units offered"
  pub lesser : gave_out b e ≡ min (overseas_units_open b) (bonded_units_offered b)
  -- "if a lot got a unit, every overseas lot of an earlier day had all of its units filled there"
  pub older_filled : (k l i j : ℕ) → OverseasBuyer b k → OverseasBuyer b l → 0 < lot_gave b e k i → (lot_at b l j).day < (lot_at b k i).day → lot_gave b e l j ≡ (lot_at b l j).units

-- ---- receipts

-- "frozen for exactly one match, .., and belongs to that match's seller"; "a frozen receipt may now be for a paired or a funded match";
-- "receipts stay frozen while a match awaits auction"
pub record FrozenForOne (b : Book) (i : ℕ) : Type 0 where
  pub number : ℕ
  pub there : number < b.match_count
  pub frozen : (receipt_at b i).state ≡ ReceiptState.Frozen number
  pub only : (j : ℕ) → (receipt_at b i).state ≡ ReceiptState.Frozen j → j ≡ number
  pub paired_funded_or_awaiting : has_frozen (match_at b number).stage ≡ true
  pub sellers : (receipt_at b i).owner ≡ (match_at b number).seller

-- ---- the demand

-- what holds of a list of calls from a fresh book b, with e the book after the list
pub record Holds (b : Book) (cs : List Call) (e : Book) : Type 0 where
  -- "Cash of all accounts + all money held for matches + the fund = deposits accepted less cash withdrawals accepted."; the sums "include funded matches"
  pub money : total_cash e +ℤ pos (total_held e) +ℤ pos e.fund ≡ pos (deposits_accepted b cs) -ℤ pos (withdrawals_accepted b cs)
  -- "Units traded = units in matches + units still long"
  pub traded : units_traded b cs ≡ units_in_matches e + units_long e
  -- "and units long = units short."
  pub balanced : units_long e ≡ units_short e
  -- "Each account's cash is the sum of its entries in the list's accepted calls."
  pub entered : (k : ℕ) → k < e.account_count → (account_at e k).cash ≡ account_entries k b cs
  -- "Each frozen receipt is frozen for exactly one match, .., and belongs to that match's seller;"; "a frozen receipt may now be for a paired or a funded match";
  -- "receipts stay frozen while a match awaits auction"
  pub frozen : (i j : ℕ) → i < e.receipt_count → (receipt_at e i).state ≡ ReceiptState.Frozen j → FrozenForOne e i
  -- "no match has more of them than units."
  pub no_more : (j : ℕ) → j < e.match_count → frozen_receipts e j ≤ (match_at e j).units
  -- "If the list has an accepted Close, .."
  pub closed : (front back : List Call) (budget : ℕ) → cs ≡ front ++ Call.Close budget ∷ back → accepts (after b front) (Call.Close budget) ≡ true
      → FirstPass (after b front) (step (after b front) (Call.Close budget)).book

-- "For every list of the sixteen calls (Join to Terminate, any arguments, refused ones and defaults included) from one freshly opened book, this
-- holds after it, in the words of document 01."; "Lists and sessions may hold call 17".
-- "A list of calls or a session may now hold this one", call 18. "The list starts from the book of any accepted opening, of either kind.", with any
-- heat table: "demand 3 holds for every such table", the printed one among them (`printed_table`)
abbrev pub Demand3 : Type 0
Demand3 = (heats : List ℕ) → IsHeatTable heats → (kind t r p : ℕ) → is_accepted (opening heats kind t r p).answer ≡ true → (cs : List Call) → Holds (opening heats kind t r p).book cs (after (opening heats kind t r p).book cs)
