-- Pay, Measure, Invoice, Terminate, Hand over and Auction, where they are accepted, are each one settlement of a match: entries are posted, the fund may gain,
-- the match gets a stage and money held, and receipts stay frozen for it only where that stage has them. All laws of these calls are read from
-- that. Assumes nothing.
use Rattle.std.specs.Prelude.{◌≡◌, ◌≢◌, Bool, not, ℕ, ◌+◌, ◌-◌, ◌*◌, ◌≤◌, ◌<◌, ltb, eqb, neg_ℤ, ◌+ℤ◌, length, get_or, set, Option, Some, None}
use Rattle.std.proofs.Math.Path.{refl, ap, subst}
use Rattle.std.proofs.Common.{sym, ◌∙◌, arith, eqb-true, ltb-true, ltb-false, ne_eqb}
use Rattle.std.proofs.Math.Nat.{mul-pos}
use Rattle.std.proofs.Math.Bool.{true, false}
use mathlib.Core.List.{List, [], ◌∷◌}
use Rattle.std.proofs.Math.IntN.{pos, +ℤ_idr, +ℤ_assoc}
use Rattle.std.proofs.Math.ListN.{length-set}
use Rattle.std.proofs.lemmas.List.{set-get_or}
use Rattle.coal.specs.Choice.{pick}
use Rattle.coal.proofs.laws.Bounds.{percent_down_most}
use Rattle.whole.specs.Ring.{ring}
use Rattle.whole.specs.Whole.{pos_minus, natAbs_neg}
use Rattle.book.specs.Types.{ReceiptState, Stage, Account, Receipt, Match, Book}
use Rattle.book.specs.Counting.{iter, sum, one_if}
use Rattle.book.specs.Rows.{blank_receipt, blank_match, is_frozen, is_frozen_for, has_frozen, is_paid_for, with_held, with_vessel, with_state}
use Rattle.book.specs.Tables.{account_at, match_at, put_match, with_accounts, with_receipts, with_fund, pay, charge, frozen_receipts}
use Rattle.book.specs.Settlement.{value, seller_fault, buyer_fault, penalty, punish, release_turn, free_again, pass_turn, pass_receipts, set_stage, first_part, into_held, to_auction, paid_stage, fault_ended, paid, weight_due, vessel_amount, leaves_short, measured, loaded, terminated, handed, sold, no_bid_part, unsold, auctioned}
use Rattle.book.specs.Entries.{Entry, plus, minus, penalty_entries, pay_entries, measure_entries, vessel_entries, terminate_entries, hand_over_entries, auction_entries}
use Rattle.book.proofs.laws.Counting.{by_pick, by_eq, rows_add, iter_keeps, sum_set, impossible}
use Rattle.book.proofs.laws.Sound.{SoundMatch, frozen_of, ReceiptTable, SoundTables}
use Rattle.book.proofs.laws.Tables.{matches_put, receipts_put, receipts_rematched, receipts_restaged, NoneFrozen, not_frozen, unfrozen_for, frozen_set}
use Rattle.book.proofs.laws.Answered.{MayLoad}
use Rattle.book.proofs.laws.Bounds.{value_most, weight_due_most, vessel_most}
use Rattle.book.proofs.laws.Posting.{Within, all_entries, weight, Posted, posted_none, post, posted_accounts, posted_offers}

-- how far a match has come: a settlement takes it on
abbrev pub rank : Stage → ℕ
rank Stage.Paired = 0
rank Stage.Prepaid = 1
rank Stage.Held = 2
rank Stage.Closed = 3
rank Stage.Ended = 3
rank Stage.Funded = 1
rank Stage.Awaiting = 1

-- the most that a settlement moves, to and from all accounts together, and into the fund
abbrev pub most : ℕ
most = 2_100_000_000_000_000

-- a sound table of receipts, of which none of the first i is frozen for match j
pub record Freed (n m : ℕ) (ms : List Match) (board : Bool) (count j i : ℕ) (l : List Receipt) : Type 0 where
  pub table : ReceiptTable n m ms board count l
  pub done : NoneFrozen i l j

-- from b to e the match of this number is settled, with these entries
pub record Settlement (b : Book) (number : ℕ) (es : List Entry) (e : Book) : Type 0 where
  pub there : number < b.match_count
  pub held : ℕ
  pub stage : Stage
  pub gained : ℕ
  pub same : e ≡ with_receipts (put_match (with_fund (with_accounts b e.accounts b.account_count) e.fund) number (with_held (match_at b number) held stage)) e.receipts b.receipt_count
  pub posted : Posted b.accounts e.accounts es
  pub fund : e.fund ≡ b.fund + gained
  pub within : Within b.account_count es
  pub small : weight es ≤ most
  pub gained_small : gained ≤ most
  pub even : all_entries es +ℤ pos held +ℤ pos gained ≡ pos (match_at b number).held
  pub later : rank (match_at b number).stage < rank stage
  pub row : SoundMatch b.account_count b.day b.tonnes b.board (with_held (match_at b number) held stage)
  pub receipts : ReceiptTable b.account_count b.match_count (set b.matches number (with_held (match_at b number) held stage)) b.board b.receipt_count e.receipts
  -- receipts of other matches stay frozen, and where V is held for receipts, as many as its units are frozen for it
  pub others : (k : ℕ) → k ≢ number → frozen_of b.receipt_count b.receipts k ≤ frozen_of b.receipt_count e.receipts k
  pub all_frozen : is_paid_for stage ≡ true → (match_at b number).units ≤ frozen_of b.receipt_count e.receipts number

settlement_if : {b e d : Book} {j : ℕ} {es ds : List Entry} (t : Bool) → Settlement b j es e → Settlement b j ds d → Settlement b j (pick t es ds) (pick t e d)
settlement_if true s r = s
settlement_if false s r = r

pub settlement_tables : {b e : Book} {j : ℕ} {es : List Entry} → Settlement b j es e → SoundTables b → SoundTables e
settlement_tables {b} s r =
    let l = s.receipts in
    subst SoundTables (sym s.same) (search (posted_accounts, posted_offers, matches_put))

-- from b to e a vessel of a match is measured, with these entries: it is recorded, or the match is settled
pub data Loads (b : Book) : List Entry → Book → Type 0 where
  records : (j d x : ℕ) → j < b.match_count → SoundMatch b.account_count b.day b.tonnes b.board (with_vessel (match_at b j) d x)
      → ReceiptTable b.account_count b.match_count (set b.matches j (with_vessel (match_at b j) d x)) b.board b.receipt_count b.receipts → Loads b [] (put_match b j (with_vessel (match_at b j) d x))
  settles : {j : ℕ} {es : List Entry} {e : Book} → Settlement b j es e → Loads b es e

loads_if : {b e d : Book} {es ds : List Entry} (t : Bool) → (t ≡ true → Loads b es e) → (t ≡ false → Loads b ds d) → Loads b (pick t es ds) (pick t e d)
loads_if true f g = f refl
loads_if false f g = g refl

pub loads_tables : {b e : Book} {es : List Entry} → Loads b es e → SoundTables b → SoundTables e
loads_tables (Loads.records j d x p s t) r = search matches_put
loads_tables (Loads.settles s) r = settlement_tables s r

-- ---- the match

-- what a match may hold at a stage
abbrev Holding : ℕ → Bool → Match → ℕ → Stage → Type 0
Holding tonnes board m x Stage.Paired = x ≡ 0
Holding tonnes board m x Stage.Prepaid = (x ≡ m.units * m.price * tonnes) × (board ≡ true) × (m.heat ≡ None → ⊥) × (0 < m.units * tonnes * 1_000)
Holding tonnes board m x Stage.Held = Unit {0}
Holding tonnes board m x Stage.Closed = x ≡ 0
Holding tonnes board m x Stage.Ended = x ≡ 0
Holding tonnes board m x Stage.Funded = (x ≡ m.units * m.price * tonnes) × (board ≡ false)
Holding tonnes board m x Stage.Awaiting = (x ≡ m.units * m.price * tonnes) × (board ≡ false)

-- what a match that is paid for holds
paid_for : (tonnes : ℕ) (board : Bool) (m : Match) (x : ℕ) (s : Stage) → Holding tonnes board m x s → is_paid_for s ≡ true → (x ≡ m.units * m.price * tonnes) × (board ≡ false)
paid_for tonnes board m x Stage.Paired g e = impossible (cc)
paid_for tonnes board m x Stage.Prepaid g e = impossible (cc)
paid_for tonnes board m x Stage.Held g e = impossible (cc)
paid_for tonnes board m x Stage.Closed g e = impossible (cc)
paid_for tonnes board m x Stage.Ended g e = impossible (cc)
paid_for tonnes board m x Stage.Funded g e = g
paid_for tonnes board m x Stage.Awaiting g e = g

staged : {n day tonnes : ℕ} {board : Bool} {m : Match} (x : ℕ) (s : Stage) → x ≤ 22_000_000_000_000 → Holding tonnes board m x s → SoundMatch n day tonnes board m → SoundMatch n day tonnes board (with_held m x s)
staged {tonnes = tonnes} {board} {m} x s h g r =
    let at : (t : Stage) → s ≡ t → Holding tonnes board m x t = λ t e. subst (Holding tonnes board m x) e g in
    let value : s ≡ Stage.Prepaid → x ≡ m.units * m.price * tonnes = λ e. (at Stage.Prepaid e).0 in
    let kind : s ≡ Stage.Prepaid → board ≡ true = λ e. (at Stage.Prepaid e).1 in
    let heat : s ≡ Stage.Prepaid → m.heat ≡ None → ⊥ = λ e. (at Stage.Prepaid e).2 in
    let weight : s ≡ Stage.Prepaid → 0 < m.units * tonnes * 1_000 = λ e. (at Stage.Prepaid e).3 in
    let worth : is_paid_for s ≡ true → x ≡ m.units * m.price * tonnes = λ e. (paid_for tonnes board m x s g e).0 in
    let not-board : is_paid_for s ≡ true → board ≡ false = λ e. (paid_for tonnes board m x s g e).1 in
    search (at Stage.Paired, at Stage.Closed, at Stage.Ended, arith)

-- ---- the receipts

-- the match for which none stays frozen gets another stage
freed_table : {n m : ℕ} {ms : List Match} {board : Bool} {count j : ℕ} {l : List Receipt} (c : Match) → Freed n m ms board count j count l → ReceiptTable n m (set ms j c) board count l
freed_table {m = m} {j = j} c t = receipts_rematched m j c (omega arith) (λ k h n. h) t.done t.table

-- only a match that is paired, funded or awaits auction has receipts frozen for it
other_none : (b : Book) (j : ℕ) {s : Stage} → (match_at b j).stage ≡ s → has_frozen s ≡ false → SoundTables b
    → Freed b.account_count b.match_count b.matches b.board b.receipt_count j b.receipt_count b.receipts
other_none b j h f r = record {
  table = r.core.receipts;
  done = λ i k. not_frozen _ j (λ n e q. let z = (r.core.receipts.rows i k).frozen_stage n e in let y = ap (λ (x : ℕ). (match_at b x).stage) q in impossible (cc));
}

module _ (new : Receipt → Receipt) (j : ℕ) where
  -- receipt i is made anew where it is frozen for match j
  abbrev free_turn : ℕ → List Receipt → List Receipt
  free_turn i l = set l i (pick (is_frozen_for j (get_or l i blank_receipt).state) (new (get_or l i blank_receipt)) (get_or l i blank_receipt))

  free_one : {n m : ℕ} {ms : List Match} {board : Bool} {count : ℕ} → ((r : Receipt) → r.owner < n → (new r).owner < n) → ((r : Receipt) → is_frozen (new r).state ≡ false)
      → (i : ℕ) (l : List Receipt) → i < count → Freed n m ms board count j i l → Freed n m ms board count j (i + 1) (free_turn i l)
  free_one {n} {m} {ms} {board} {count} o f i l h t =
      let r = get_or l i blank_receipt in
      let later : (x : Receipt) → is_frozen_for j x.state ≡ false → NoneFrozen (i + 1) (set l i x) j =
      λ x. rows_add (λ (x : Receipt). is_frozen_for j x.state ≡ false) l i x blank_receipt (omega (arith, t.table.size, t.table.few)) t.done in
      by_pick (λ (x : Receipt). Freed n m ms board count j (i + 1) (set l i x)) (is_frozen_for j r.state)
      (λ z. record { table = receipts_put i (new r) h (o r (t.table.rows i h).owner_there) (f r) t.table; done = later (new r) (unfrozen_for (new r).state j (f r)) })
      (λ z. record { table = rw set-get_or t.table; done = later r z })

  free_all : {n m : ℕ} {ms : List Match} {board : Bool} {count : ℕ} {l : List Receipt} → ((r : Receipt) → r.owner < n → (new r).owner < n) → ((r : Receipt) → is_frozen (new r).state ≡ false)
      → ReceiptTable n m ms board count l → Freed n m ms board count j count (iter count 0 free_turn l)
  free_all {n} {m} {ms} {board} {count} {l} o f t =
      iter_keeps (Freed n m ms board count j) free_turn count (λ i l h g. free_one o f i l h g) count 0 l (omega arith) (record { table = t; done = λ k h. absurd (omega arith) })

  -- the receipts of another match stay frozen
  free_others : ((r : Receipt) → is_frozen (new r).state ≡ false) → (k : ℕ) → k ≢ j → (count : ℕ) (l : List Receipt) → count ≤ length l → frozen_of count l k ≤ frozen_of count (iter count 0 free_turn l) k
  free_others f k d count l h =
      (iter_keeps (λ i t. (length t ≡ length l) × (frozen_of count l k ≤ frozen_of count t k)) free_turn count (λ i t g p. one i t g p) count 0 l (omega arith) (refl, omega arith)).1
    where
      for_one : (s : ReceiptState) → is_frozen_for j s ≡ true → is_frozen_for k s ≡ false
      for_one ReceiptState.Free e = refl
      for_one (ReceiptState.Frozen i) e = rw (eqb-true i j e) (ne_eqb j k (λ q. d (sym q)))
      for_one ReceiptState.Struck e = refl

      one : (i : ℕ) (t : List Receipt) → i < count → (length t ≡ length l) × (frozen_of count l k ≤ frozen_of count t k) → (length (free_turn i t) ≡ length l) × (frozen_of count l k ≤ frozen_of count (free_turn i t) k)
      one i t g p =
          let r = get_or t i blank_receipt in
          by_pick (λ (x : Receipt). (length (set t i x) ≡ length l) × (frozen_of count l k ≤ frozen_of count (set t i x) k)) (is_frozen_for j r.state)
          (λ z.
          let old : one_if (is_frozen_for k r.state) ≡ 0 = ap one_if (for_one r.state z) in
          (simp length-set p.0, omega (arith, p.1, frozen_set t count i (new r) k g (omega (arith, p.0)))))
          (λ z. rw set-get_or p)

-- ---- penalties

-- no fault, or one of at most 100 percent
data Few : Option ℕ → Type 0 where
  faultless : Few None
  percent : {x : ℕ} → x ≤ 100 → Few (Some x)

few_if : (t : Bool) {x y : Option ℕ} → Few x → Few y → Few (pick t x y)
few_if true f g = f
few_if false f g = g

buyer_few : (b : Book) (j : ℕ) → b.rate ≤ 100 → Few (buyer_fault b j)
unfolding buyer_fault
buyer_few b j h = let ten : 10 ≤ 100 = omega arith in search (few_if, percent, faultless)

seller_few : (b : Book) (j : ℕ) → b.rate ≤ 100 → Few (seller_fault b j)
unfolding seller_fault
seller_few b j h = let ten : 10 ≤ 100 = omega arith in search (few_if, percent, faultless)

-- from b to e penalties of at most v each are paid
record Fined (b : Book) (v : ℕ) (es : List Entry) (e : Book) : Type 0 where
  gained : ℕ
  same : e ≡ with_fund (with_accounts b e.accounts b.account_count) e.fund
  posted : Posted b.accounts e.accounts es
  fund : e.fund ≡ b.fund + gained
  within : Within b.account_count es
  small : weight es ≤ 2 * v
  gained_small : gained ≤ 2 * v
  even : all_entries es +ℤ pos gained ≡ pos 0

module _ (b : Book) (v k i : ℕ) (p : k < b.account_count) (q : i < b.account_count) (s : b.account_count ≤ length b.accounts) where
  -- "One at fault pays the other"
  one_fined : (u : ℕ) → u ≤ v → Fined b v (minus k u ∷ plus i u ∷ []) (pay (charge b k u) i u)
  unfolding pay charge all_entries weight
  one_fined u h = record {
    gained = 0;
    same = refl;
    posted = post b.accounts k (neg_ℤ (pos u)) (omega arith) (post _ i (pos u) (simp length-set (omega arith)) (posted_none _));
    fund = omega arith;
    within = (p, (q, tt));
    small = omega (arith, natAbs_neg (pos u));
    gained_small = omega arith;
    even = simp ring;
  }

  -- "two at fault each pay the fund"
  both_fined : (u w : ℕ) → u ≤ v → w ≤ v → Fined b v (minus k u ∷ minus i w ∷ []) (with_fund (charge (charge b k u) i w) (b.fund + (u + w)))
  unfolding charge all_entries weight
  both_fined u w h g = record {
    gained = u + w;
    same = refl;
    posted = post b.accounts k (neg_ℤ (pos u)) (omega arith) (post _ i (neg_ℤ (pos w)) (simp length-set (omega arith)) (posted_none _));
    fund = refl;
    within = (p, (q, tt));
    small = omega (arith, natAbs_neg (pos u), natAbs_neg (pos w));
    gained_small = omega arith;
    even = simp ring;
  }

-- of book b, with its accounts in table l
fined : (b : Book) (l : List Account) (m : Match) → m.buyer < b.account_count → m.seller < b.account_count → b.account_count ≤ length l → {x y : Option ℕ} → Few x → Few y
    → Fined (with_accounts b l b.account_count) (value b m) (penalty_entries b m x y) (punish (with_accounts b l b.account_count) m x y)
unfolding punish penalty_entries penalty value all_entries weight
fined b l m p q s faultless faultless = record { gained = 0; same = refl; posted = posted_none l; fund = omega arith; within = tt; small = omega arith; gained_small = omega arith; even = refl }
fined b l m p q s (percent {x = x} f) faultless = one_fined _ (value b m) m.buyer m.seller p q s (penalty b m x) (percent_down_most x (value b m) f)
fined b l m p q s faultless (percent {x = y} g) = one_fined _ (value b m) m.seller m.buyer q p s (penalty b m y) (percent_down_most y (value b m) g)
fined b l m p q s (percent {x = x} f) (percent {x = y} g) = both_fined _ (value b m) m.buyer m.seller p q s (penalty b m x) (penalty b m y) (percent_down_most x (value b m) f) (percent_down_most y (value b m) g)

-- ---- the calls

-- in a board book a seller without fault has declared a heat
faultless_heat : (b : Book) (j : ℕ) → seller_fault b j ≡ None → b.board ≡ true → (match_at b j).heat ≡ None → ⊥
unfolding seller_fault
faultless_heat b j e q h = go (account_at b (match_at b j).seller).fit (rw (q, h) at e)
  where
    go : (t : Bool) → pick (not t) (Some 10) (Some b.rate) ≡ None → ⊥
    go true f = impossible (cc)
    go false f = impossible (cc)

-- in a receipts book a seller without fault has as many receipts frozen as the match has units
faultless_frozen : (b : Book) (j : ℕ) → seller_fault b j ≡ None → b.board ≡ false → (match_at b j).units ≤ frozen_of b.receipt_count b.receipts j
unfolding seller_fault frozen_receipts
faultless_frozen b j e q = go (account_at b (match_at b j).seller).fit (ltb (frozen_of b.receipt_count b.receipts j) (match_at b j).units) refl (rw q at e)
  where
    go : (s t : Bool) → ltb (frozen_of b.receipt_count b.receipts j) (match_at b j).units ≡ t → pick (not s) (Some 10) (pick t (Some b.rate) None) ≡ None
        → (match_at b j).units ≤ frozen_of b.receipt_count b.receipts j
    go true true h f = impossible (cc)
    go true false h f = ltb-false _ _ h
    go false t h f = impossible (cc)

module _ (b : Book) (r : SoundTables b) (j : ℕ) (p : j < b.match_count) where
  row : SoundMatch b.account_count b.day b.tonnes b.board (match_at b j)
  row = r.core.matches.rows j p

  all_there : b.account_count ≤ length b.accounts
  all_there = omega (arith, r.core.accounts.size, r.core.accounts.few)

  buyer_cell : (match_at b j).buyer < length b.accounts
  buyer_cell = omega (arith, row.buyer_there, all_there)

  seller_cell : (match_at b j).seller < length b.accounts
  seller_cell = omega (arith, row.seller_there, all_there)

  receipts_there : b.receipt_count ≤ length b.receipts
  receipts_there = omega (arith, r.core.receipts.size, r.core.receipts.few)

  value_few : value b (match_at b j) ≤ 20_000_000_000_000
  value_few = value_most b (match_at b j) row.few row.price_high r.core.terms.tonnes_few

  pub weight_some : 0 < weight_due b (match_at b j)
  unfolding weight_due
  weight_some = let h : 0 < (match_at b j).units * b.tonnes = mul-pos row.some r.core.terms.tonnes_some in omega arith

  -- "Invoice (held): the money held goes to the seller; closed."
  pub invoice_settles : (match_at b j).stage ≡ Stage.Held → Settlement b j (plus (match_at b j).seller (match_at b j).held ∷ []) (set_stage (pay b (match_at b j).seller (match_at b j).held) j 0 Stage.Closed)
  unfolding all_entries weight pay
  invoice_settles s =
      let m = match_at b j in
      record {
        there = p;
        held = 0;
        stage = Stage.Closed;
        gained = 0;
        same = refl;
        posted = post b.accounts m.seller (pos m.held) seller_cell (posted_none _);
        fund = omega arith;
        within = (row.seller_there, tt);
        small = omega (arith, row.held_few);
        gained_small = omega arith;
        even = simp ring;
        later = omega (arith, ap rank s);
        row = staged 0 Stage.Closed (omega arith) refl row;
        receipts = freed_table _ (other_none b j s refl r);
        others = λ k d. omega arith;
        all_frozen = λ e. impossible (cc);
      }

  -- "buyer gets V back and pays B; seller gets 80% of B, down; the rest is held; stage held."
  measure_settles : (match_at b j).stage ≡ Stage.Prepaid → (x : ℕ) → x ≤ 22_000_000_000_000 → Settlement b j (measure_entries b (match_at b j) x) (measured b j (match_at b j) x)
  unfolding all_entries weight measured measure_entries pay charge value
  measure_settles t x few =
      let c = match_at b j in
      let v = value b c in
      let y = first_part x in
      let part : y ≤ x = percent_down_most 80 x (omega arith) in
      record {
        there = p;
        held = x - y;
        stage = Stage.Held;
        gained = 0;
        same = refl;
        posted = post b.accounts c.buyer (pos v) buyer_cell
            (post _ c.buyer (neg_ℤ (pos x)) (simp length-set buyer_cell)
            (post _ c.seller (pos y) (simp length-set seller_cell) (posted_none _)));
        fund = omega arith;
        within = (row.buyer_there, (row.buyer_there, (row.seller_there, tt)));
        small = omega (arith, value_few, natAbs_neg (pos x));
        gained_small = omega arith;
        even = rw (row.prepaid_value t, pos_minus x y) (simp ring);
        later = omega (arith, ap rank t);
        row = staged (x - y) Stage.Held (omega arith) tt row;
        receipts = freed_table _ (other_none b j t refl r);
        others = λ k d. omega arith;
        all_frozen = λ e. impossible (cc);
      }

  vessel_row : (d x : ℕ) → leaves_short b (match_at b j) d ≡ true → MayLoad b (match_at b j) d → 1_000 * x ≤ 1_090_909 * (d + 500_000) + 500
      → SoundMatch b.account_count b.day b.tonnes b.board (with_vessel (match_at b j) d x)
  unfolding leaves_short weight_due
  vessel_row d x e g h =
      let c = match_at b j in
      let short : c.loaded + d < c.units * b.tonnes * 1_000 = ltb-true _ _ e in
      let seven : c.vessels ≤ 6 = by_eq c.vessels 7 (λ q. impossible (cc (g.eighth q, e))) (λ q. omega (arith, row.vessels_few)) in
      search arith

  -- "The match stays prepaid until the dues add up to D; then B, the sum, is paid as before."
  pub measure_loads : (match_at b j).stage ≡ Stage.Prepaid → (d w q m s f a : ℕ) → MayLoad b (match_at b j) d
      → Loads b (vessel_entries b (match_at b j) d (vessel_amount b (match_at b j) d w q m s f a)) (loaded b j (match_at b j) d (vessel_amount b (match_at b j) d w q m s f a))
  unfolding loaded vessel_entries leaves_short weight_due
  measure_loads t d w q m s f a g =
      let c = match_at b j in
      let x = vessel_amount b c d w q m s f a in
      let whole = weight_due_most b c row.few r.core.terms.tonnes_few in
      let near = vessel_most b c d w q m s f a r.core.terms.heat_table row.price_high in
      loads_if (leaves_short b c d)
      (λ e. Loads.records j d x p (vessel_row d x e g near) (freed_table (with_vessel c d x) (other_none b j t refl r)))
      (λ e. Loads.settles (measure_settles t (c.counted + x) (omega (arith, whole, near, g.within, row.counted_few, row.vessels_few))))

  -- "buyer gets V back; party or parties at fault pay R% of V as above; ended."
  returned_settles : (match_at b j).stage ≡ Stage.Prepaid → {x y : Option ℕ} → Few x → Few y
      → Settlement b j (plus (match_at b j).buyer (value b (match_at b j)) ∷ penalty_entries b (match_at b j) x y) (set_stage (punish (pay b (match_at b j).buyer (value b (match_at b j))) (match_at b j) x y) j 0 Stage.Ended)
  unfolding all_entries weight pay value
  returned_settles s {x} {y} f g =
      let m = match_at b j in
      let v = value b m in
      let c = pay b m.buyer v in
      let d : Fined c v (penalty_entries b m x y) (punish c m x y) = fined b c.accounts m row.buyer_there row.seller_there (simp length-set all_there) f g in
      let e = set_stage (punish c m x y) j 0 Stage.Ended in
      record {
        there = p;
        held = 0;
        stage = Stage.Ended;
        gained = d.gained;
        same = ap (λ (q : Book). set_stage q j 0 Stage.Ended) d.same ∙ ap (λ (l : List Receipt). with_receipts (set_stage (with_fund (with_accounts b e.accounts b.account_count) e.fund) j 0 Stage.Ended) l b.receipt_count) (sym (ap (λ (q : Book). q.receipts) d.same));
        posted = post b.accounts m.buyer (pos v) buyer_cell d.posted;
        fund = d.fund;
        within = (row.buyer_there, d.within);
        small = omega (arith, value_few, d.small);
        gained_small = omega (arith, value_few, d.gained_small);
        even = rw (row.prepaid_value s, +ℤ_idr, +ℤ_assoc, d.even, +ℤ_idr);
        later = omega (arith, ap rank s);
        row = staged 0 Stage.Ended (omega arith) refl row;
        receipts = rw d.same (freed_table _ (other_none b j s refl r));
        others = λ k n. rw d.same (omega arith);
        all_frozen = λ e. impossible (cc);
      }

  pub terminate_settles : (match_at b j).stage ≡ Stage.Prepaid → (party : ℕ) → Settlement b j (terminate_entries b (match_at b j) party) (terminated b j (match_at b j) party)
  unfolding terminated terminate_entries
  terminate_settles s party =
      let h = percent r.core.terms.rate_few in
      returned_settles s (few_if (not (eqb party 1)) h faultless) (few_if (not (eqb party 0)) h faultless)

  -- "ends the match on a fault": "Then the match is ended and its receipts are free again."
  ended_settles : (match_at b j).stage ≡ Stage.Paired → {x y : Option ℕ} → Few x → Few y → Settlement b j (penalty_entries b (match_at b j) x y) (fault_ended b j (match_at b j) x y)
  unfolding fault_ended free_again release_turn
  ended_settles s {x} {y} f g =
      let m = match_at b j in
      let d = fined b b.accounts m row.buyer_there row.seller_there all_there f g in
      let e = fault_ended b j m x y in
      let new : Receipt → Receipt = λ z. with_state z ReceiptState.Free in
      let t = subst (λ (q : Book). Freed b.account_count b.match_count b.matches b.board b.receipt_count j b.receipt_count (iter q.receipt_count 0 (release_turn j) q.receipts)) (sym d.same)
      (free_all new j (λ z o. o) (λ z. refl) r.core.receipts) in
      record {
        there = p;
        held = 0;
        stage = Stage.Ended;
        gained = d.gained;
        same = ap (λ (q : Book). with_receipts (set_stage q j 0 Stage.Ended) e.receipts q.receipt_count) d.same;
        posted = d.posted;
        fund = d.fund;
        within = d.within;
        small = omega (arith, value_few, d.small);
        gained_small = omega (arith, value_few, d.gained_small);
        even = rw (row.paired_none s, +ℤ_idr) d.even;
        later = omega (arith, ap rank s);
        row = staged 0 Stage.Ended (omega arith) refl row;
        receipts = freed_table _ t;
        others = λ k n. subst (λ (q : Book). frozen_of b.receipt_count b.receipts k ≤ frozen_of b.receipt_count (iter q.receipt_count 0 (release_turn j) q.receipts) k) (sym d.same)
            (free_others new j (λ z. refl) k n b.receipt_count b.receipts receipts_there);
        all_frozen = λ z. impossible (cc);
      }

  -- "moves V into money held", at a later stage at which it may be held
  into_held_settles : (match_at b j).stage ≡ Stage.Paired → (s : Stage) → 0 < rank s → Holding b.tonnes b.board (match_at b j) (value b (match_at b j)) s
      → ReceiptTable b.account_count b.match_count (set b.matches j (with_held (match_at b j) (value b (match_at b j)) s)) b.board b.receipt_count b.receipts
      → (is_paid_for s ≡ true → (match_at b j).units ≤ frozen_of b.receipt_count b.receipts j)
      → Settlement b j (minus (match_at b j).buyer (value b (match_at b j)) ∷ []) (into_held b j (match_at b j) (value b (match_at b j)) s)
  unfolding all_entries weight into_held charge
  into_held_settles q s h g t a =
      let m = match_at b j in
      let v = value b m in
      record {
        there = p;
        held = v;
        stage = s;
        gained = 0;
        same = refl;
        posted = post b.accounts m.buyer (neg_ℤ (pos v)) buyer_cell (posted_none _);
        fund = omega arith;
        within = (row.buyer_there, tt);
        small = omega (arith, value_few, natAbs_neg (pos v));
        gained_small = omega arith;
        even = rw (row.paired_none q) (simp ring);
        later = omega (arith, ap rank q);
        row = staged v s (omega (arith, value_few)) g row;
        receipts = t;
        others = λ k d. omega arith;
        all_frozen = a;
      }

  -- "In a receipts book it gives the new stage 5, funded", or "stage 6, awaiting auction". "A board match goes from Pay to prepaid."
  no_fault_settles : (match_at b j).stage ≡ Stage.Paired → seller_fault b j ≡ None → (t a : Bool) → b.board ≡ t
      → Settlement b j (minus (match_at b j).buyer (value b (match_at b j)) ∷ []) (into_held b j (match_at b j) (value b (match_at b j)) (pick t Stage.Prepaid (pick a Stage.Awaiting Stage.Funded)))
  unfolding value weight_due
  no_fault_settles s f true a e =
      into_held_settles s Stage.Prepaid (omega arith) (refl, e, faultless_heat b j f e, weight_some)
      (freed_table _ (record { table = r.core.receipts; done = λ i k. absurd (omega (arith, r.core.receipts.none e)) }))
      (λ z. impossible (cc))
  no_fault_settles s f false true e =
      into_held_settles s Stage.Awaiting (omega arith) (refl, e) (receipts_restaged j _ refl refl refl r.core.receipts) (λ z. faultless_frozen b j f e)
  no_fault_settles s f false false e =
      into_held_settles s Stage.Funded (omega arith) (refl, e) (receipts_restaged j _ refl refl refl r.core.receipts) (λ z. faultless_frozen b j f e)

  paid_settles : (match_at b j).stage ≡ Stage.Paired → {x y : Option ℕ} → Few x → Few y → seller_fault b j ≡ y → Settlement b j (pay_entries b (match_at b j) x y) (paid b j (match_at b j) x y)
  unfolding paid paid_stage pay_entries
  paid_settles s faultless faultless e = no_fault_settles s e b.board (to_auction b j (match_at b j)) refl
  paid_settles s (percent f) faultless e = ended_settles s (percent f) faultless
  paid_settles s faultless (percent g) e = ended_settles s faultless (percent g)
  paid_settles s (percent f) (percent g) e = ended_settles s (percent f) (percent g)

  pub pay_settles : (match_at b j).stage ≡ Stage.Paired → Settlement b j (pay_entries b (match_at b j) (buyer_fault b j) (seller_fault b j)) (paid b j (match_at b j) (buyer_fault b j) (seller_fault b j))
  pay_settles s = paid_settles s (buyer_few b j r.core.terms.rate_few) (seller_few b j r.core.terms.rate_few) refl

  -- "passes the receipts and pays the seller's 80%": of V that is held, after entries that come to nothing
  handed_settles : rank (match_at b j).stage < 2 → (match_at b j).held ≡ value b (match_at b j) → (l : List Account) (es : List Entry) (k : ℕ) → k < b.account_count
      → Posted b.accounts (pay (with_accounts b l b.account_count) (match_at b j).seller (first_part (value b (match_at b j)))).accounts es
      → Within b.account_count es → weight es ≤ most → all_entries es ≡ pos (first_part (value b (match_at b j)))
      → Settlement b j es (handed (with_accounts b l b.account_count) j (match_at b j) (value b (match_at b j)) k)
  unfolding handed pass_receipts pass_turn pay
  handed_settles h g l es k i d w o q =
      let m = match_at b j in
      let v = value b m in
      let y = first_part v in
      let part : y ≤ v = percent_down_most 80 v (omega arith) in
      let new : Receipt → Receipt = λ z. record { owner = k; bonded = z.bonded; state = ReceiptState.Free } in
      record {
        there = p;
        held = v - y;
        stage = Stage.Held;
        gained = 0;
        same = refl;
        posted = d;
        fund = omega arith;
        within = w;
        small = o;
        gained_small = omega arith;
        even = rw (g, q) (ap pos (omega arith));
        later = omega arith;
        row = staged (v - y) Stage.Held (omega (arith, value_few)) tt row;
        receipts = freed_table _ (free_all new j (λ z o. i) (λ z. refl) r.core.receipts);
        others = λ k n. free_others new j (λ z. refl) k n b.receipt_count b.receipts receipts_there;
        all_frozen = λ z. impossible (cc);
      }

  part_few : first_part (value b (match_at b j)) ≤ 20_000_000_000_000
  part_few = omega (arith, value_few, percent_down_most 80 (value b (match_at b j)) (omega arith))

  pub hand_over_settles : (match_at b j).stage ≡ Stage.Funded → Settlement b j (hand_over_entries b (match_at b j)) (handed b j (match_at b j) (value b (match_at b j)) (match_at b j).buyer)
  unfolding all_entries weight hand_over_entries pay value
  hand_over_settles s =
      let m = match_at b j in
      handed_settles (omega (arith, ap rank s)) (row.paid_for_value (ap is_paid_for s)) b.accounts _ m.buyer row.buyer_there
      (post b.accounts m.seller (pos (first_part (value b m))) seller_cell (posted_none _))
      (row.seller_there, tt) (omega (arith, part_few)) (simp ring)

  -- "Above zero, the winner pays the proceeds to the buyer and takes the receipts, the seller gets 80% and the rest is held as before."
  sold_settles : (match_at b j).stage ≡ Stage.Awaiting → (k x : ℕ) → k < b.account_count → x ≤ 1_000_000_000_000_000
      → Settlement b j (minus k x ∷ plus (match_at b j).buyer x ∷ plus (match_at b j).seller (first_part (value b (match_at b j))) ∷ []) (sold b j (match_at b j) k x)
  unfolding all_entries weight sold pay charge value
  sold_settles s k x i h =
      let m = match_at b j in
      let c = pay (charge b k x) m.buyer x in
      handed_settles (omega (arith, ap rank s)) (row.paid_for_value (ap is_paid_for s)) c.accounts _ k i
      (post b.accounts k (neg_ℤ (pos x)) (omega (arith, all_there)) (post _ m.buyer (pos x) (simp length-set buyer_cell) (post _ m.seller (pos (first_part (value b m))) (simp length-set seller_cell) (posted_none _))))
      (i, (row.buyer_there, (row.seller_there, tt))) (omega (arith, part_few, natAbs_neg (pos x))) (simp ring)

  -- "the buyer gets V back, pays the seller 20% of V, down, the match is ended and the receipts are freed"
  unsold_settles : (match_at b j).stage ≡ Stage.Awaiting
      → Settlement b j (plus (match_at b j).buyer (value b (match_at b j)) ∷ minus (match_at b j).buyer (no_bid_part (value b (match_at b j))) ∷ plus (match_at b j).seller (no_bid_part (value b (match_at b j))) ∷ []) (unsold b j (match_at b j) (value b (match_at b j)))
  unfolding all_entries weight unsold free_again release_turn pay charge value
  unsold_settles s =
      let m = match_at b j in
      let v = value b m in
      let y = no_bid_part v in
      let part : y ≤ v = percent_down_most 20 v (omega arith) in
      let worth : m.held ≡ v = row.paid_for_value (ap is_paid_for s) in
      let new : Receipt → Receipt = λ z. with_state z ReceiptState.Free in
      record {
        there = p;
        held = 0;
        stage = Stage.Ended;
        gained = 0;
        same = refl;
        posted = post b.accounts m.buyer (pos v) buyer_cell (post _ m.buyer (neg_ℤ (pos y)) (simp length-set buyer_cell) (post _ m.seller (pos y) (simp length-set seller_cell) (posted_none _)));
        fund = omega arith;
        within = (row.buyer_there, (row.buyer_there, (row.seller_there, tt)));
        small = omega (arith, value_few, natAbs_neg (pos y));
        gained_small = omega arith;
        even = rw worth (simp ring);
        later = omega (arith, ap rank s);
        row = staged 0 Stage.Ended (omega arith) refl row;
        receipts = freed_table _ (free_all new j (λ z o. o) (λ z. refl) r.core.receipts);
        others = λ k n. free_others new j (λ z. refl) k n b.receipt_count b.receipts receipts_there;
        all_frozen = λ z. impossible (cc);
      }

  pub auction_settles : (match_at b j).stage ≡ Stage.Awaiting → (k x : ℕ) → k < b.account_count → x ≤ 1_000_000_000_000_000 → Settlement b j (auction_entries b (match_at b j) k x) (auctioned b j (match_at b j) k x)
  unfolding auction_entries auctioned
  auction_settles s k x i h = settlement_if (eqb x 0) (unsold_settles s) (sold_settles s k x i h)

-- ---- sums over the matches

-- of the matches, one has a vessel more, of which f does not speak
pub vessel_sum : (b : Book) (f : Match → ℕ) (j d x : ℕ) → j < b.match_count → SoundTables b → f (with_vessel (match_at b j) d x) ≡ f (match_at b j)
    → sum b.match_count 0 (λ i. f (match_at (put_match b j (with_vessel (match_at b j) d x)) i)) ≡ sum b.match_count 0 (λ i. f (match_at b i))
vessel_sum b f j d x p r e = omega (arith, e, sum_set f b.matches b.match_count j (with_vessel (match_at b j) d x) blank_match p (omega (arith, r.core.matches.size, r.core.matches.few)))

-- of the matches, one is put
pub settlement_sum : {b e : Book} {j : ℕ} {es : List Entry} (f : Match → ℕ) (s : Settlement b j es e) → SoundTables b
    → sum e.match_count 0 (λ i. f (match_at e i)) + f (match_at b j) ≡ sum b.match_count 0 (λ i. f (match_at b i)) + f (with_held (match_at b j) s.held s.stage)
settlement_sum {b} {j = j} f s r =
    ap (λ (x : Book). sum x.match_count 0 (λ i. f (match_at x i)) + f (match_at b j)) s.same
    ∙ sum_set f b.matches b.match_count j (with_held (match_at b j) s.held s.stage) blank_match s.there (omega (arith, s.there, r.core.matches.size, r.core.matches.few))
