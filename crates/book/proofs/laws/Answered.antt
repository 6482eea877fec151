-- The refusals of all eighteen calls, gone through once: a call is refused and leaves the book, or it is accepted, none of its conditions applies,
-- and it leaves the book that its rule says. A law of single calls goes by cases on this. Assumes nothing.
use Rattle.std.specs.Prelude.{◌≡◌, List, refl, Bool, true, false, not, ◌&&◌, ◌||◌, ℕ, ◌+◌, ◌≤◌, ◌<◌, ltb, eqb, pos, Option, Some, None}
use Rattle.std.proofs.Common.{sym, ap, ◌∙◌, arith, ltb-true, ltb-false, leb-false, eqb-true, eq-eqb}
use Rattle.std.proofs.lemmas.Bool.{eqb-false, not-false}
use Rattle.std.specs.Int.Signed.{lt_z}
use Rattle.book.specs.Types.{ReceiptState, Stage, Match, Book, Outcome, Call}
use Rattle.book.specs.Rows.{needs_fifth, with_heat, with_offer, with_state, long_units, short_units, is_long, is_short, offer_missing, offer_units, heat_missing, is_struck, is_frozen, is_paired, is_prepaid, is_held, is_funded, is_awaiting, any_class}
use Rattle.coal.specs.Coal.{coal_weight}
use Rattle.book.specs.Codes.{sample}
use Rattle.book.specs.Tables.{account_at, receipt_at, match_at, add_account, add_receipt, put_account, put_receipt, with_deposited, with_day, with_open, pay, charge, free_receipts}
use Rattle.book.specs.Answers.{refuse, refuse_if, accept, accept_close, refusal_of}
use Rattle.book.specs.Opening.{fresh, no_book, opening, next_day}
use Rattle.book.specs.Accounts.{join, deposit, withdraw, new_account, trade, traded}
use Rattle.book.specs.Receipts.{lodge, strike, new_receipt}
use Rattle.book.specs.Pairing.{pair}
use Rattle.book.specs.Offers.{declare, offer, retract, take_offer, end_offer}
use Rattle.book.specs.Closing.{close, first_pass, pairs, tests, gap, all_passes, lapse_offers}
use Rattle.book.specs.Settlement.{value, set_stage, pay_match, paid, buyer_fault, seller_fault, weight_due, vessel_amount, leaves_short, bad_due, loaded, measure, invoice, terminate, terminated, hand_over, handed, auction, auctioned}
use Rattle.book.specs.Calls.{step}
use Rattle.heats.specs.HeatTables.{IsHeatTable}
use Rattle.heats.specs.Numerators.{heat_table}
use Rattle.heats.proofs.Rising.{printed_table}
use Rattle.book.proofs.laws.Counting.{impossible}

-- ---- what an accepted call has met

pub record MayJoin (b : Book) (residence fitness : ℕ) : Type 0 where
  pub space : b.account_count < 32
  pub residence_code : residence ≤ 1
  pub fitness_code : fitness ≤ 1

pub record MayDeposit (b : Book) (k x : ℕ) : Type 0 where
  pub there : k < b.account_count
  pub some : 1 ≤ x
  pub few : x ≤ 1_000_000_000_000_000
  pub room : b.deposited + x ≤ 100_000_000_000_000_000

pub record MayWithdraw (b : Book) (k x : ℕ) : Type 0 where
  pub there : k < b.account_count
  pub some : 1 ≤ x
  pub few : x ≤ 1_000_000_000_000_000
  pub enough : lt_z (account_at b k).cash (pos x) ≡ false

pub record MayTrade (b : Book) (buyer seller u : ℕ) : Type 0 where
  pub is_open : b.«open» ≡ true
  pub buyer_there : buyer < b.account_count
  pub seller_there : seller < b.account_count
  pub two : buyer ≡ seller → ⊥
  pub some : 1 ≤ u
  pub few : u ≤ 1_000
  pub buyer_side : is_short (account_at b buyer).side ≡ false
  pub seller_side : is_long (account_at b seller).side ≡ false
  pub buyer_few : (account_at b buyer).units + u ≤ 1_000
  pub seller_few : (account_at b seller).units + u ≤ 1_000
  pub buyer_place : needs_fifth (account_at b buyer).lots b.day ≡ false
  pub seller_place : needs_fifth (account_at b seller).lots b.day ≡ false

pub record MayLodge (b : Book) (owner class : ℕ) : Type 0 where
  pub no_board : b.board ≡ false
  pub owner_there : owner < b.account_count
  pub class_code : class ≤ 1
  pub space : b.receipt_count < 256

pub record MayStrike (b : Book) (owner i : ℕ) : Type 0 where
  pub no_board : b.board ≡ false
  pub owner_there : owner < b.account_count
  pub there : i < b.receipt_count
  pub owned : (receipt_at b i).owner ≡ owner
  pub free : (receipt_at b i).state ≡ ReceiptState.Free

pub record MayDeclare (b : Book) (k h : ℕ) : Type 0 where
  pub is_board : b.board ≡ true
  pub there : k < b.account_count
  pub low : 4_300 ≤ h
  pub high : h ≤ 10_000

pub record MayOffer (b : Book) (seller u : ℕ) : Type 0 where
  pub is_open : b.«open» ≡ true
  pub there : seller < b.account_count
  pub some : 1 ≤ u
  pub few : u ≤ 1_000
  pub none : (account_at b seller).offer ≡ None
  pub short : u ≤ short_units (account_at b seller)
  pub receipts : b.board ≡ false → u ≤ free_receipts b any_class seller
  pub heat : b.board ≡ true → (account_at b seller).heat ≡ None → ⊥

pub record MayRetract (b : Book) (seller : ℕ) : Type 0 where
  pub is_open : b.«open» ≡ true
  pub there : seller < b.account_count
  pub stands : (account_at b seller).offer ≡ Some (offer_units (account_at b seller).offer)

pub record MayTake (b : Book) (buyer seller : ℕ) : Type 0 where
  pub is_open : b.«open» ≡ true
  pub buyer_there : buyer < b.account_count
  pub seller_there : seller < b.account_count
  pub two : buyer ≡ seller → ⊥
  pub stands : (account_at b seller).offer ≡ Some (offer_units (account_at b seller).offer)
  pub long : offer_units (account_at b seller).offer ≤ long_units (account_at b buyer)
  pub receipts : b.board ≡ false → offer_units (account_at b seller).offer ≤ free_receipts b any_class seller
  pub space : b.match_count < 64

pub record MayDay (b : Book) (p : ℕ) : Type 0 where
  pub some : 1 ≤ p
  pub few : p ≤ 1_000_000
  pub early : b.day < 1_000

pub record MayClose (b : Book) (budget : ℕ) : Type 0 where
  pub is_open : b.«open» ≡ true
  pub few : budget ≤ 1_023

pub record MayPay (b : Book) (j : ℕ) : Type 0 where
  pub there : j < b.match_count
  pub paired : (match_at b j).stage ≡ Stage.Paired
  pub due : (match_at b j).due ≤ b.day

-- a due weight d that match c of book b may have loaded
pub record MayLoad (b : Book) (c : Match) (d : ℕ) : Type 0 where
  pub some : 0 < d
  pub within : c.loaded + d ≤ weight_due b c
  pub eighth : c.vessels ≡ 7 → leaves_short b c d ≡ false

pub record MayMeasure (b : Book) (j w q m s f a d : ℕ) : Type 0 where
  pub is_board : b.board ≡ true
  pub there : j < b.match_count
  pub prepaid : (match_at b j).stage ≡ Stage.Prepaid
  pub w_few : w ≤ 40_000_000_000
  pub q_few : q ≤ 10_000
  pub m_few : m ≤ 10_000
  pub s_few : s ≤ 10_000
  pub f_few : f ≤ 10_000
  pub a_few : a ≤ 10_000
  pub due : MayLoad b (match_at b j) d

pub record MayInvoice (b : Book) (j : ℕ) : Type 0 where
  pub there : j < b.match_count
  pub in_hold : (match_at b j).stage ≡ Stage.Held

pub record MayTerminate (b : Book) (j party : ℕ) : Type 0 where
  pub is_board : b.board ≡ true
  pub party_code : party ≤ 2
  pub there : j < b.match_count
  pub prepaid : (match_at b j).stage ≡ Stage.Prepaid

pub record MayHandOver (b : Book) (j : ℕ) : Type 0 where
  pub there : j < b.match_count
  pub funded : (match_at b j).stage ≡ Stage.Funded

pub record MayAuction (b : Book) (j winner x : ℕ) : Type 0 where
  pub winner_there : winner < b.account_count
  pub few : x ≤ 1_000_000_000_000_000
  pub there : j < b.match_count
  pub awaiting : (match_at b j).stage ≡ Stage.Awaiting
  pub domestic : ltb 0 x ≡ true → (account_at b winner).overseas ≡ false
  pub enough : ltb 0 x ≡ true → lt_z (account_at b winner).cash (pos x) ≡ false

-- ---- the answers

pub data Answered (b : Book) : Call → Outcome → Type 0 where
  refused : {c : Call} (n : ℕ) → 0 < n → Answered b c (refuse n b)
  joins : {residence fitness : ℕ} → MayJoin b residence fitness → Answered b (Call.Join residence fitness) (accept b.account_count (add_account b (new_account residence fitness)))
  deposits : {k x : ℕ} → MayDeposit b k x → Answered b (Call.Deposit k x) (accept 0 (pay (with_deposited b (b.deposited + x)) k x))
  withdraws : {k x : ℕ} → MayWithdraw b k x → Answered b (Call.Withdraw k x) (accept 0 (charge b k x))
  trades : {buyer seller u : ℕ} → MayTrade b buyer seller u → Answered b (Call.Trade buyer seller u) (accept 0 (traded b buyer seller u))
  lodges : {owner class : ℕ} → MayLodge b owner class → Answered b (Call.Lodge owner class) (accept b.receipt_count (add_receipt b (new_receipt owner class)))
  strikes : {owner i : ℕ} → MayStrike b owner i → Answered b (Call.Strike owner i) (accept 0 (put_receipt b i (with_state (receipt_at b i) ReceiptState.Struck)))
  declares : {k h : ℕ} → MayDeclare b k h → Answered b (Call.Declare k h) (accept 0 (put_account b k (with_heat (account_at b k) (Some h))))
  offers : {seller u : ℕ} → MayOffer b seller u → Answered b (Call.Offer seller u) (accept 0 (put_account b seller (with_offer (account_at b seller) (Some u))))
  retracts : {seller : ℕ} → MayRetract b seller → Answered b (Call.Retract seller) (accept 0 (end_offer b seller))
  takes : {buyer seller : ℕ} → MayTake b buyer seller → Answered b (Call.Take buyer seller) (accept b.match_count (end_offer (pair b any_class 2 buyer seller (offer_units (account_at b seller).offer)) seller))
  days : {p : ℕ} → MayDay b p → Answered b (Call.Day p) (accept (b.day + 1) (with_day b p (b.day + 1)))
  closes : {budget : ℕ} → MayClose b budget
      → Answered b (Call.Close budget) (accept_close (pairs (first_pass b) budget) (tests (first_pass b) budget) (gap (first_pass b) budget) (with_open (lapse_offers (all_passes b budget)) false))
  pays : {j : ℕ} → MayPay b j → Answered b (Call.Pay j) (accept 0 (paid b j (match_at b j) (buyer_fault b j) (seller_fault b j)))
  measures : {j w q m s f a d : ℕ} → MayMeasure b j w q m s f a d → Answered b (Call.Measure j (sample w q m s f a) d) (accept (coal_weight d w m).over (loaded b j (match_at b j) d (vessel_amount b (match_at b j) d w q m s f a)))
  invoices : {j : ℕ} → MayInvoice b j → Answered b (Call.Invoice j) (accept 0 (set_stage (pay b (match_at b j).seller (match_at b j).held) j 0 Stage.Closed))
  terminates : {j party : ℕ} → MayTerminate b j party → Answered b (Call.Terminate j party) (accept 0 (terminated b j (match_at b j) party))
  hands_over : {j : ℕ} → MayHandOver b j → Answered b (Call.HandOver j) (accept 0 (handed b j (match_at b j) (value b (match_at b j)) (match_at b j).buyer))
  auctions : {j winner x : ℕ} → MayAuction b j winner x → Answered b (Call.Auction j winner x) (accept 0 (auctioned b j (match_at b j) winner x))

-- ---- tests

-- a test of the machine: refused, or on with the test false
test : {b : Book} {c : Call} (t : Bool) (n : ℕ) {o : Outcome} → ltb 0 n ≡ true → (t ≡ false → Answered b c o) → Answered b c (refuse_if t n b o)
test true n p h = refused n (ltb-true 0 n p)
test false n p h = h refl

-- of two conditions at once, where the first holds
both_not : (s t : Bool) → (s && t) ≡ false → s ≡ true → t ≡ false
both_not true t h e = h
both_not false t h e = cc

flipped : (t : Bool) → t ≡ false → not t ≡ true
flipped t e = rw e refl

-- neither of two conditions
neither : (s t : Bool) → (s || t) ≡ false → (s ≡ false) × (t ≡ false)
neither true t h = cc
neither false t h = (refl, h)

-- none of the conditions of refusal 32
pub may_load : (b : Book) (c : Match) (d : ℕ) → bad_due b c d ≡ false → MayLoad b c d
unfolding bad_due
may_load b c d e =
    let z = neither (eqb d 0 || ltb (weight_due b c) (c.loaded + d)) (eqb c.vessels 7 && leaves_short b c d) e in
    let y = neither (eqb d 0) (ltb (weight_due b c) (c.loaded + d)) z.0 in
    record { some = let n = eqb-false d 0 y.0 in omega arith; within = ltb-false _ _ y.1; eighth = λ v. both_not (eqb c.vessels 7) (leaves_short b c d) z.1 (eq-eqb _ _ v) }

paired_is : (s : Stage) → not (is_paired s) ≡ false → s ≡ Stage.Paired
paired_is Stage.Paired e = refl
paired_is Stage.Prepaid e = cc
paired_is Stage.Held e = cc
paired_is Stage.Closed e = cc
paired_is Stage.Ended e = cc
paired_is Stage.Funded e = cc
paired_is Stage.Awaiting e = cc

prepaid_is : (s : Stage) → not (is_prepaid s) ≡ false → s ≡ Stage.Prepaid
prepaid_is Stage.Paired e = cc
prepaid_is Stage.Prepaid e = refl
prepaid_is Stage.Held e = cc
prepaid_is Stage.Closed e = cc
prepaid_is Stage.Ended e = cc
prepaid_is Stage.Funded e = cc
prepaid_is Stage.Awaiting e = cc

held_is : (s : Stage) → not (is_held s) ≡ false → s ≡ Stage.Held
held_is Stage.Paired e = cc
held_is Stage.Prepaid e = cc
held_is Stage.Held e = refl
held_is Stage.Closed e = cc
held_is Stage.Ended e = cc
held_is Stage.Funded e = cc
held_is Stage.Awaiting e = cc

funded_is : (s : Stage) → not (is_funded s) ≡ false → s ≡ Stage.Funded
funded_is Stage.Paired e = cc
funded_is Stage.Prepaid e = cc
funded_is Stage.Held e = cc
funded_is Stage.Closed e = cc
funded_is Stage.Ended e = cc
funded_is Stage.Funded e = refl
funded_is Stage.Awaiting e = cc

awaiting_is : (s : Stage) → not (is_awaiting s) ≡ false → s ≡ Stage.Awaiting
awaiting_is Stage.Paired e = cc
awaiting_is Stage.Prepaid e = cc
awaiting_is Stage.Held e = cc
awaiting_is Stage.Closed e = cc
awaiting_is Stage.Ended e = cc
awaiting_is Stage.Funded e = cc
awaiting_is Stage.Awaiting e = refl

free_is : (s : ReceiptState) → is_struck s ≡ false → is_frozen s ≡ false → s ≡ ReceiptState.Free
free_is ReceiptState.Free g h = refl
free_is (ReceiptState.Frozen j) g h = cc
free_is ReceiptState.Struck g h = cc

missing_is : (o : Option ℕ) → not (offer_missing o) ≡ false → o ≡ None
missing_is None h = refl
missing_is (Some u) h = cc

standing_is : (o : Option ℕ) → offer_missing o ≡ false → o ≡ Some (offer_units o)
standing_is None h = cc
standing_is (Some u) h = refl

declared_is : (h : Option ℕ) → heat_missing h ≡ false → h ≡ None → ⊥
declared_is h e m = impossible (cc (rw m at e))

ruleset accepted = (joins, deposits, withdraws, trades, lodges, strikes, declares, offers, retracts, takes, days, closes, pays, measures, invoices, terminates, hands_over, auctions)

-- test after test, the accepted answer behind them, and what each test that does not hold says
ruleset refusals = (test, refl, accepted, ltb-false, leb-false, eqb-true, eqb-false, not-false, both_not, flipped, paired_is, prepaid_is, held_is, funded_is, awaiting_is, free_is, missing_is, standing_is, declared_is, may_load)

pub answered : (b : Book) (c : Call) → Answered b c (step b c)
unfolding step join deposit withdraw trade lodge strike declare offer retract take_offer next_day close pay_match measure invoice terminate hand_over auction
answered b (Call.Join residence fitness) = search refusals depth 16
answered b (Call.Deposit k x) = search refusals depth 16
answered b (Call.Withdraw k x) = search refusals depth 16
answered b (Call.Trade buyer seller u) = search refusals depth 16
answered b (Call.Lodge owner class) = search refusals depth 16
answered b (Call.Strike owner i) = search refusals depth 16
answered b (Call.Declare k h) = search refusals depth 16
answered b (Call.Offer seller u) = search refusals depth 16
answered b (Call.Retract seller) = search refusals depth 16
answered b (Call.Take buyer seller) = search refusals depth 16
answered b (Call.Day p) = search refusals depth 16
answered b (Call.Close budget) = search refusals depth 16
answered b (Call.Pay j) = search refusals depth 16
answered b (Call.Measure j x d) = search refusals depth 16
answered b (Call.Invoice j) = search refusals depth 16
answered b (Call.Terminate j party) = search refusals depth 16
answered b (Call.HandOver j) = search refusals depth 16
answered b (Call.Auction j winner x) = search refusals depth 16

-- "A refusal is one number; the book is unchanged."
refused_alone : {b : Book} {c : Call} {o : Outcome} → Answered b c o → (refusal_of o.answer ≡ 0 → ⊥) → refuse (refusal_of o.answer) b ≡ o
refused_alone (refused n p) h = refl
refused_alone (joins g) h = absurd (h refl)
refused_alone (deposits g) h = absurd (h refl)
refused_alone (withdraws g) h = absurd (h refl)
refused_alone (trades g) h = absurd (h refl)
refused_alone (lodges g) h = absurd (h refl)
refused_alone (strikes g) h = absurd (h refl)
refused_alone (declares g) h = absurd (h refl)
refused_alone (offers g) h = absurd (h refl)
refused_alone (retracts g) h = absurd (h refl)
refused_alone (takes g) h = absurd (h refl)
refused_alone (days g) h = absurd (h refl)
refused_alone (closes g) h = absurd (h refl)
refused_alone (pays g) h = absurd (h refl)
refused_alone (measures g) h = absurd (h refl)
refused_alone (invoices g) h = absurd (h refl)
refused_alone (terminates g) h = absurd (h refl)
refused_alone (hands_over g) h = absurd (h refl)
refused_alone (auctions g) h = absurd (h refl)

pub refused_is : (b : Book) (c : Call) {n : ℕ} → n ≡ refusal_of (step b c).answer → (n ≡ 0 → ⊥) → refuse n b ≡ step b c
refused_is b c q h = ap (λ (k : ℕ). refuse k b) q ∙ refused_alone (answered b c) (λ z. h (q ∙ z))

-- and where there is none, the call is accepted: none of its conditions applies, and it leaves the book that its rule says
module _ (b : Book) where
  trade_goes : {buyer seller u : ℕ} {o : Outcome} → Answered b (Call.Trade buyer seller u) o → refusal_of o.answer ≡ 0 → MayTrade b buyer seller u × (accept 0 (traded b buyer seller u) ≡ o)
  trade_goes (refused n p) h = absurd (omega arith)
  trade_goes (trades g) h = (g, refl)

  offer_goes : {seller u : ℕ} {o : Outcome} → Answered b (Call.Offer seller u) o → refusal_of o.answer ≡ 0 → MayOffer b seller u × (accept 0 (put_account b seller (with_offer (account_at b seller) (Some u))) ≡ o)
  offer_goes (refused n p) h = absurd (omega arith)
  offer_goes (offers g) h = (g, refl)

  take_goes : {buyer seller : ℕ} {o : Outcome} → Answered b (Call.Take buyer seller) o → refusal_of o.answer ≡ 0 → MayTake b buyer seller × (accept b.match_count (end_offer (pair b any_class 2 buyer seller (offer_units (account_at b seller).offer)) seller) ≡ o)
  take_goes (refused n p) h = absurd (omega arith)
  take_goes (takes g) h = (g, refl)

  pay_goes : {j : ℕ} {o : Outcome} → Answered b (Call.Pay j) o → refusal_of o.answer ≡ 0 → MayPay b j × (accept 0 (paid b j (match_at b j) (buyer_fault b j) (seller_fault b j)) ≡ o)
  pay_goes (refused n p) h = absurd (omega arith)
  pay_goes (pays g) h = (g, refl)

  measure_goes : {j w q m s f a d : ℕ} {o : Outcome} → Answered b (Call.Measure j (sample w q m s f a) d) o → refusal_of o.answer ≡ 0 → MayMeasure b j w q m s f a d × (accept (coal_weight d w m).over (loaded b j (match_at b j) d (vessel_amount b (match_at b j) d w q m s f a)) ≡ o)
  measure_goes (refused n p) h = absurd (omega arith)
  measure_goes (measures g) h = (g, refl)

  invoice_goes : {j : ℕ} {o : Outcome} → Answered b (Call.Invoice j) o → refusal_of o.answer ≡ 0 → MayInvoice b j × (accept 0 (set_stage (pay b (match_at b j).seller (match_at b j).held) j 0 Stage.Closed) ≡ o)
  invoice_goes (refused n p) h = absurd (omega arith)
  invoice_goes (invoices g) h = (g, refl)

  terminate_goes : {j party : ℕ} {o : Outcome} → Answered b (Call.Terminate j party) o → refusal_of o.answer ≡ 0 → MayTerminate b j party × (accept 0 (terminated b j (match_at b j) party) ≡ o)
  terminate_goes (refused n p) h = absurd (omega arith)
  terminate_goes (terminates g) h = (g, refl)

  hand_over_goes : {j : ℕ} {o : Outcome} → Answered b (Call.HandOver j) o → refusal_of o.answer ≡ 0 → MayHandOver b j × (accept 0 (handed b j (match_at b j) (value b (match_at b j)) (match_at b j).buyer) ≡ o)
  hand_over_goes (refused n p) h = absurd (omega arith)
  hand_over_goes (hands_over g) h = (g, refl)

  auction_goes : {j winner x : ℕ} {o : Outcome} → Answered b (Call.Auction j winner x) o → refusal_of o.answer ≡ 0 → MayAuction b j winner x × (accept 0 (auctioned b j (match_at b j) winner x) ≡ o)
  auction_goes (refused n p) h = absurd (omega arith)
  auction_goes (auctions g) h = (g, refl)

  pub trade_accepted : (buyer seller u : ℕ) {n : ℕ} → n ≡ refusal_of (trade b buyer seller u).answer → n ≡ 0 → MayTrade b buyer seller u × (accept 0 (traded b buyer seller u) ≡ trade b buyer seller u)
  unfolding step
  trade_accepted buyer seller u e h = trade_goes (answered b (Call.Trade buyer seller u)) (sym e ∙ h)

  pub offer_accepted : (seller u : ℕ) {n : ℕ} → n ≡ refusal_of (offer b seller u).answer → n ≡ 0 → MayOffer b seller u × (accept 0 (put_account b seller (with_offer (account_at b seller) (Some u))) ≡ offer b seller u)
  unfolding step
  offer_accepted seller u e h = offer_goes (answered b (Call.Offer seller u)) (sym e ∙ h)

  pub take_accepted : (buyer seller : ℕ) {n : ℕ} → n ≡ refusal_of (take_offer b buyer seller).answer → n ≡ 0 → MayTake b buyer seller × (accept b.match_count (end_offer (pair b any_class 2 buyer seller (offer_units (account_at b seller).offer)) seller) ≡ take_offer b buyer seller)
  unfolding step
  take_accepted buyer seller e h = take_goes (answered b (Call.Take buyer seller)) (sym e ∙ h)

  pub pay_accepted : (j : ℕ) {n : ℕ} → n ≡ refusal_of (pay_match b j).answer → n ≡ 0 → MayPay b j × (accept 0 (paid b j (match_at b j) (buyer_fault b j) (seller_fault b j)) ≡ pay_match b j)
  unfolding step
  pay_accepted j e h = pay_goes (answered b (Call.Pay j)) (sym e ∙ h)

  pub measure_accepted : (j w q m s f a d : ℕ) {n : ℕ} → n ≡ refusal_of (measure b j w q m s f a d).answer → n ≡ 0 → MayMeasure b j w q m s f a d × (accept (coal_weight d w m).over (loaded b j (match_at b j) d (vessel_amount b (match_at b j) d w q m s f a)) ≡ measure b j w q m s f a d)
  unfolding step
  measure_accepted j w q m s f a d e h = measure_goes (answered b (Call.Measure j (sample w q m s f a) d)) (sym e ∙ h)

  pub invoice_accepted : (j : ℕ) {n : ℕ} → n ≡ refusal_of (invoice b j).answer → n ≡ 0 → MayInvoice b j × (accept 0 (set_stage (pay b (match_at b j).seller (match_at b j).held) j 0 Stage.Closed) ≡ invoice b j)
  unfolding step
  invoice_accepted j e h = invoice_goes (answered b (Call.Invoice j)) (sym e ∙ h)

  pub terminate_accepted : (j party : ℕ) {n : ℕ} → n ≡ refusal_of (terminate b j party).answer → n ≡ 0 → MayTerminate b j party × (accept 0 (terminated b j (match_at b j) party) ≡ terminate b j party)
  unfolding step
  terminate_accepted j party e h = terminate_goes (answered b (Call.Terminate j party)) (sym e ∙ h)

  pub hand_over_accepted : (j : ℕ) {n : ℕ} → n ≡ refusal_of (hand_over b j).answer → n ≡ 0 → MayHandOver b j × (accept 0 (handed b j (match_at b j) (value b (match_at b j)) (match_at b j).buyer) ≡ hand_over b j)
  unfolding step
  hand_over_accepted j e h = hand_over_goes (answered b (Call.HandOver j)) (sym e ∙ h)

  pub auction_accepted : (j winner x : ℕ) {n : ℕ} → n ≡ refusal_of (auction b j winner x).answer → n ≡ 0 → MayAuction b j winner x × (accept 0 (auctioned b j (match_at b j) winner x) ≡ auction b j winner x)
  unfolding step
  auction_accepted j winner x e h = auction_goes (answered b (Call.Auction j winner x)) (sym e ∙ h)

-- ---- the opening

-- what an opening leaves, accepted or not, is a fresh book within the ranges
pub of_opening : (P : Book → Type 0) → ((heats : List ℕ) → IsHeatTable heats → (board : Bool) (t r p : ℕ) → 1 ≤ t → t ≤ 20_000 → r ≤ 100 → 1 ≤ p → p ≤ 1_000_000 → P (fresh heats board t r p))
    → (heats : List ℕ) → IsHeatTable heats → (kind t r p : ℕ) → P (opening heats kind t r p).book
unfolding opening
of_opening P h heats s kind t r p = search (passed, h, ltb-false, arith) depth 12
  where
    passed : (t : Bool) (o : Outcome) → (t ≡ false → P o.book) → P (refuse_if t 1 no_book o).book
    passed true o g = h heat_table printed_table false 1 0 1 (omega arith) (omega arith) (omega arith) (omega arith) (omega arith)
    passed false o g = g refl
