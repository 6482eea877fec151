-- A session as it is written in these files: an opening, calls each with its answer, and the ledger after them. Assumes nothing.
use Rattle.std.specs.Prelude.{List, [], ◌∷◌, ◌++◌, map, ℕ, zero, suc, ◌+◌, ℤ, pos, neg_ℤ}
use Rattle.heats.specs.Each as numbers
use Rattle.heats.specs.Numerators as heats
use Rattle.heats.specs.Numerators.{heat_table}
use Rattle.coal.specs.Coal as coal
use Rattle.book.specs.declared.tables.Book.{Book}
use Rattle.book.specs.declared.calls.Call.{Call}
use Rattle.book.specs.Outcomes.{Answer}
use Rattle.book.specs.Codes.{side_number, class_number, state_number, stage_number}
use Rattle.book.specs.Counting as counting
use Rattle.book.specs.Tables as tables
use Rattle.book.specs.Opening.{opening, next_day}
use Rattle.book.specs.Accounts as accounts
use Rattle.book.specs.Receipts as receipts
use Rattle.book.specs.Pairing as pairing
use Rattle.book.specs.Offers as offers
use Rattle.book.specs.Masks as masks
use Rattle.book.specs.Closing as closing
use Rattle.book.specs.Settlement as settlement
use Rattle.book.specs.Calls.{step}
use Rattle.book.specs.Entries.{penalty_entries, pay_entries, measure_entries, vessel_entries, terminate_entries, hand_over_entries, auction_entries, entries}
use Rattle.book.specs.Lists.{after, sum_accepted, amounts, deposits_accepted, withdrawals_accepted, units_traded, entry_sum, account_entries}
use Rattle.book.specs.Demand3.{gave, gave_out, overseas_units_open, bonded_units_offered, total_cash, total_held, units_in_matches, units_long, units_short}

-- ---- calls with their answers

abbrev pub ok : ℕ → Answer
ok n = Answer.Accepted n

-- "`ok pairs tests gap`", of a Close
abbrev pub closed : ℕ → ℕ → ℕ → Answer
closed pairs tests gap = Answer.Closed pairs tests gap

abbrev pub no : ℕ → Answer
no n = Answer.Refused n

-- a call, and the answer that it must get
pub record Line : Type 0 where
  pub call : Call
  pub answer : Answer

abbrev pub line : Call → Answer → Line
line c a = record { call = c; answer = a }

abbrev pub calls : List Line → List Call
calls ls = map (λ (l : Line). l.call) ls

-- f of each of the n numbers from i on
abbrev pub each : {A : Type 0} → ℕ → ℕ → (ℕ → A) → List A
each zero i f = []
each (suc n) i f = f i ∷ each n (i + 1) f

-- the same call n times
abbrev pub times : ℕ → Call → List Call
times n c = each n 0 (λ i. c)

-- the same calls n times
abbrev pub rounds : ℕ → List Call → List Call
rounds zero cs = []
rounds (suc n) cs = cs ++ rounds n cs

-- ---- the ledger, in the order and the numbers of document 01's

pub data Row : Type 0 where
  account : (number : ℕ) (cash : ℤ) (side units : ℕ) → Row
  receipt : (number owner class state : ℕ) → Row
  matched : (number buyer seller units price stage held : ℕ) → Row
  fund : ℕ → Row

-- cash below zero
abbrev pub owes : ℕ → ℤ
owes x = neg_ℤ (pos x)

abbrev pub account_row : Book → ℕ → Row
account_row b k = account k (tables.account_at b k).cash (side_number (tables.account_at b k).side) (tables.account_at b k).units

abbrev pub receipt_row : Book → ℕ → Row
receipt_row b i = receipt i (tables.receipt_at b i).owner (class_number (tables.receipt_at b i).bonded) (state_number (tables.receipt_at b i).state)

abbrev pub match_row : Book → ℕ → Row
match_row b j = matched j (tables.match_at b j).buyer (tables.match_at b j).seller (tables.match_at b j).units (tables.match_at b j).price (stage_number (tables.match_at b j).stage) (tables.match_at b j).held

abbrev pub ledger_rows : Book → List Row
ledger_rows b = each b.account_count 0 (account_row b) ++ each b.receipt_count 0 (receipt_row b) ++ each b.match_count 0 (match_row b) ++ fund b.fund ∷ []

-- ---- a session

-- each call with the answer that the machine gives
abbrev pub answered : Book → List Call → List Line
answered b [] = []
answered b (c ∷ cs) = let o = step b c in line c o.answer ∷ answered o.book cs

-- the book of an opening with a heat table; and with the printed one, "if none was loaded"
unfoldable pub book_with : List ℕ → ℕ → ℕ → ℕ → ℕ → Book
unfolding opening
book_with heats kind t r p = (opening heats kind t r p).book

unfoldable pub book_of : ℕ → ℕ → ℕ → ℕ → Book
unfolding book_with
book_of kind t r p = book_with heat_table kind t r p

-- the answers of a script's calls from an opening
unfoldable pub play : ℕ → ℕ → ℕ → ℕ → List Line → List Line
unfolding
    coal.half_up coal.half_even coal.percent_down coal.percent_half_up coal.settled_heat numbers.each heats.numerator heats.heat_table coal.price_by_band coal.price_by_heat coal.less_short_heat coal.less_sulphur coal.by_sulphur coal.outside
    coal.by_volatiles_or_ash coal.coal_price coal.weight_within coal.by_moisture coal.coal_weight coal.amount
    counting.iter counting.lowest counting.tally counting.sum counting.total counting.those
    tables.pay tables.charge tables.free_at tables.free_receipts tables.frozen_at tables.frozen_receipts opening next_day
    accounts.join accounts.deposit accounts.withdraw accounts.trade receipts.lodge receipts.strike pairing.freeze_turn pairing.freeze pairing.pair
    offers.declare offers.offer offers.retract offers.take_offer
    closing.walk closing.join_pair closing.joined closing.pair_all closing.insert_by_day closing.insert_lots closing.lots_in_order closing.overseas_lots closing.bonded_sellers closing.buyers closing.sellers closing.first_pass
    closing.equal_seller closing.second_turn closing.second_pass closing.third_pass closing.old_passes
    masks.members masks.added masks.balanced_masks masks.choose masks.united closing.remaining closing.longs closing.shorts closing.tests closing.chosen
    closing.walk_of closing.walk_each closing.plan closing.planned closing.later_passes closing.pairs closing.gap closing.all_passes closing.lapse_turn closing.lapse_offers closing.close
    settlement.value settlement.seller_fault settlement.buyer_fault settlement.penalty settlement.punish settlement.release_turn settlement.free_again
    settlement.pass_turn settlement.pass_receipts settlement.into_held settlement.fault_ended settlement.paid settlement.pay_match settlement.handed settlement.hand_over
    settlement.to_auction settlement.paid_stage settlement.sold settlement.unsold settlement.auctioned settlement.auction tables.ordinary_at tables.ordinary_receipts
    settlement.weight_due settlement.vessel_amount settlement.leaves_short settlement.bad_due settlement.measured settlement.loaded settlement.measure settlement.invoice settlement.terminated settlement.terminate step book_of
play kind t r p ls = answered (book_of kind t r p) (calls ls)

-- the answer to one call after a list of calls from an opening
unfoldable pub then_answers : ℕ → ℕ → ℕ → ℕ → List Call → Call → Answer
unfolding play after
then_answers kind t r p cs c = (step (after (book_of kind t r p) cs) c).answer

-- the ledger after a script
unfoldable pub ledger_after : ℕ → ℕ → ℕ → ℕ → List Line → List Row
unfolding play after
ledger_after kind t r p ls = ledger_rows (after (book_of kind t r p) (calls ls))

-- ---- what demand 3 adds up

pub record Sums : Type 0 where
  pub deposits : ℕ
  pub withdrawals : ℕ
  pub traded : ℕ
  pub cash : ℤ
  pub held : ℕ
  pub in_matches : ℕ
  pub long : ℕ
  pub short : ℕ
  -- each account's entries, by number
  pub entered : List ℤ

unfoldable pub sums_after : ℕ → ℕ → ℕ → ℕ → List Line → Sums
unfolding play after sum_accepted amounts penalty_entries pay_entries measure_entries vessel_entries terminate_entries hand_over_entries auction_entries entries entry_sum account_entries total_cash total_held units_in_matches units_long units_short
sums_after kind t r p ls =
    let b = book_of kind t r p in
    let cs = calls ls in
    let e = after b cs in
    record { deposits = deposits_accepted b cs; withdrawals = withdrawals_accepted b cs; traded = units_traded b cs; cash = total_cash e; held = total_held e; in_matches = units_in_matches e; long = units_long e; short = units_short e; entered = each e.account_count 0 (λ i. account_entries i b cs) }

-- of a Close after a script: the overseas units open, the bonded units offered, what the first pass gave out, and what it gave each account
pub record Given : Type 0 where
  pub wanted : ℕ
  pub offered : ℕ
  pub out : ℕ
  pub to_each : List ℕ

unfoldable pub given_by_close : ℕ → ℕ → ℕ → ℕ → List Line → Given
unfolding play after gave gave_out overseas_units_open bonded_units_offered
given_by_close kind t r p ls =
    let b = after (book_of kind t r p) (calls ls) in
    let e = (step b (Call.Close 0)).book in
    record { wanted = overseas_units_open b; offered = bonded_units_offered b; out = gave_out b e; to_each = each b.account_count 0 (gave b e) }
