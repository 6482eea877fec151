-- What holds of every reached book, in parts. Each part names only what it reads of a book, so that a call that leaves that leaves the
-- part. Assumes nothing.
use Rattle.std.specs.Prelude.{◌≡◌, Bool, true, false, List, ℕ, ◌+◌, ◌*◌, ◌≤◌, ◌<◌, length, get_or, nat_abs, Some, None}
use Rattle.heats.specs.HeatTables.{IsHeatTable}
use Rattle.book.specs.Types.{Side, ReceiptState, Stage, Lots, Account, Receipt, Match, Book}
use Rattle.book.specs.Counting.{tally}
use Rattle.book.specs.Rows.{blank_account, blank_receipt, blank_match, short_units, has_frozen, is_paid_for}
use Rattle.book.specs.Tables.{account_at, frozen_at}

-- ---- rows

-- the lots of an account with so many units, at this day
pub record SoundLots (day units : ℕ) (l : Lots) : Type 0 where
  -- the days rise, and none is to come
  pub second_day : l.oldest.day ≤ l.second.day
  pub third_day : l.second.day ≤ l.third.day
  pub newest_day : l.third.day ≤ l.newest.day
  pub past : l.newest.day ≤ day
  -- two lots are of two days
  pub second_later : 0 < l.oldest.units → l.oldest.day < l.second.day
  pub third_later : 0 < l.second.units → l.second.day < l.third.day
  pub newest_later : 0 < l.third.units → l.third.day < l.newest.day
  -- free places come before the lots
  pub second_taken : 0 < l.oldest.units → 0 < l.second.units
  pub third_taken : 0 < l.second.units → 0 < l.third.units
  pub newest_taken : 0 < l.third.units → 0 < l.newest.units
  -- their units are the account's
  pub whole : l.oldest.units + l.second.units + l.third.units + l.newest.units ≡ units

-- an account of a book at this day
pub record SoundAccount (day : ℕ) (a : Account) : Type 0 where
  -- "0..1,000 units"
  pub few : a.units ≤ 1_000
  pub flat_none : a.side ≡ Side.Flat → a.units ≡ 0
  pub long_some : a.side ≡ Side.Long → 0 < a.units
  pub short_some : a.side ≡ Side.Short → 0 < a.units
  pub in_lots : SoundLots day a.units a.lots
  pub heat_low : (h : ℕ) → a.heat ≡ Some h → 4_300 ≤ h
  pub heat_high : (h : ℕ) → a.heat ≡ Some h → h ≤ 10_000

-- the offer of an account; not so within Take and Close, which pair before the offer ends
pub record SoundOffer (a : Account) : Type 0 where
  pub offered : (u : ℕ) → a.offer ≡ Some u → u ≤ short_units a
  pub offered_some : (u : ℕ) → a.offer ≡ Some u → 0 < u

-- a match of a book with so many accounts, at this day, of T tonnes, of this kind
pub record SoundMatch (accounts day tonnes : ℕ) (board : Bool) (m : Match) : Type 0 where
  pub buyer_there : m.buyer < accounts
  pub seller_there : m.seller < accounts
  -- buyer and seller are two
  pub two : m.buyer ≡ m.seller → ⊥
  pub some : 0 < m.units
  pub few : m.units ≤ 1_000
  pub price_high : m.price ≤ 1_000_000
  pub price_low : 0 < m.price
  pub due_soon : m.due ≤ day + 2
  pub heat_low : (h : ℕ) → m.heat ≡ Some h → 4_300 ≤ h
  pub heat_high : (h : ℕ) → m.heat ≡ Some h → h ≤ 10_000
  -- what is held at a stage: nothing, V in a board book with its heat declared, V in a receipts book, or a rest
  pub paired_none : m.stage ≡ Stage.Paired → m.held ≡ 0
  pub prepaid_value : m.stage ≡ Stage.Prepaid → m.held ≡ m.units * m.price * tonnes
  pub prepaid_board : m.stage ≡ Stage.Prepaid → board ≡ true
  pub prepaid_heat : m.stage ≡ Stage.Prepaid → m.heat ≡ None → ⊥
  pub closed_none : m.stage ≡ Stage.Closed → m.held ≡ 0
  pub ended_none : m.stage ≡ Stage.Ended → m.held ≡ 0
  pub paid_for_value : is_paid_for m.stage ≡ true → m.held ≡ m.units * m.price * tonnes
  pub paid_for_board : is_paid_for m.stage ≡ true → board ≡ false
  pub held_few : m.held ≤ 22_000_000_000_000
  -- the vessels recorded: seven at most, whose dues leave a prepaid match short of D; and what their amounts come to, in thousandths
  pub vessels_few : m.vessels ≤ 7
  pub loaded_few : m.loaded ≤ m.units * tonnes * 1_000
  pub loaded_short : m.stage ≡ Stage.Prepaid → m.loaded < m.units * tonnes * 1_000
  pub loaded_none : m.vessels ≡ 0 → m.loaded ≡ 0
  pub counted_few : 1_000 * m.counted ≤ 1_090_909 * (m.loaded + 500_000 * m.vessels) + 500 * m.vessels

-- a receipt of a book with so many accounts and so many of these matches: where it is frozen, then for a match that is paired, funded or awaits auction, whose seller's it is
pub record SoundReceipt (accounts count : ℕ) (matches : List Match) (r : Receipt) : Type 0 where
  pub owner_there : r.owner < accounts
  pub frozen_there : (j : ℕ) → r.state ≡ ReceiptState.Frozen j → j < count
  pub frozen_stage : (j : ℕ) → r.state ≡ ReceiptState.Frozen j → has_frozen (get_or matches j blank_match).stage ≡ true
  pub frozen_seller : (j : ℕ) → r.state ≡ ReceiptState.Frozen j → r.owner ≡ (get_or matches j blank_match).seller

-- ---- tables

-- how many of the first n receipts of a table are frozen for match j
abbrev pub frozen_of : ℕ → List Receipt → ℕ → ℕ
frozen_of n l j = tally n 0 (frozen_at l j)

-- what the opening and Day set, and the deposits accepted
pub record Terms (tonnes rate : ℕ) (heats : List ℕ) (price day deposited : ℕ) : Type 0 where
  pub tonnes_some : 0 < tonnes
  pub tonnes_few : tonnes ≤ 20_000
  pub rate_few : rate ≤ 100
  pub heat_table : IsHeatTable heats
  pub price_some : 0 < price
  pub price_few : price ≤ 1_000_000
  pub day_few : day ≤ 1_000
  pub deposits_few : deposited ≤ 100_000_000_000_000_000

-- each table has all its cells, at most as many rows as cells, and sound rows
pub record AccountTable (day count : ℕ) (l : List Account) : Type 0 where
  pub size : length l ≡ 32
  pub few : count ≤ 32
  pub rows : (k : ℕ) → k < count → SoundAccount day (get_or l k blank_account)

pub record MatchTable (accounts day tonnes : ℕ) (board : Bool) (count : ℕ) (l : List Match) : Type 0 where
  pub size : length l ≡ 256
  pub few : count ≤ 256
  pub rows : (j : ℕ) → j < count → SoundMatch accounts day tonnes board (get_or l j blank_match)

pub record ReceiptTable (accounts matches : ℕ) (ms : List Match) (board : Bool) (count : ℕ) (l : List Receipt) : Type 0 where
  pub size : length l ≡ 256
  pub few : count ≤ 256
  -- a board book has none
  pub none : board ≡ true → count ≡ 0
  pub rows : (i : ℕ) → i < count → SoundReceipt accounts matches ms (get_or l i blank_receipt)
  -- no match has more of them than units
  pub no_more : (j : ℕ) → j < matches → frozen_of count l j ≤ (get_or ms j blank_match).units

-- what holds also between the pairings of a call
pub record Core (b : Book) : Type 0 where
  pub terms : Terms b.tonnes b.rate b.heats b.price b.day b.deposited
  pub accounts : AccountTable b.day b.account_count b.accounts
  pub matches : MatchTable b.account_count b.day b.tonnes b.board b.match_count b.matches
  pub receipts : ReceiptTable b.account_count b.match_count b.matches b.board b.receipt_count b.receipts

abbrev pub Offers : Book → Type 0
Offers b = (k : ℕ) → k < b.account_count → SoundOffer (account_at b k)

-- all but the bounds of cash and fund
pub record SoundTables (b : Book) : Type 0 where
  pub core : Core b
  pub offers : Offers b
  -- "Close can now make up to 125 matches .. and Take still stops at 64"
  pub matches_few : b.match_count ≤ 189
  pub matches_open : b.«open» ≡ true → b.match_count ≤ 64

-- what holds of every reached book
pub record Sound (b : Book) : Type 0 where
  pub tables : SoundTables b
  pub cash_few : (k : ℕ) → nat_abs (account_at b k).cash ≤ 1_290_700_000_000_000_000
  pub fund_few : b.fund ≤ 1_190_700_000_000_000_000
