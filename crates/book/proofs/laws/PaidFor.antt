-- A match that is paid for keeps its receipts: every call leaves as many frozen for it as it has units, until Hand over or Auction. By cases on the answer. Assumes nothing.
use Rattle.std.specs.Prelude.{◌≡◌, Bool, true, List, ℕ, ◌≤◌, ◌<◌, get_or, set}
use Rattle.std.proofs.Common.{sym, ap, ◌∙◌, subst, arith, get_or-set_same, get_or-set_other}
use Rattle.book.specs.Types.{ReceiptState, Receipt, Match, Book, Outcome, Call}
use Rattle.book.specs.Counting.{one_if}
use Rattle.book.specs.Rows.{blank_match, any_class, offer_units, is_frozen_for, is_paid_for, with_held, with_vessel}
use Rattle.book.specs.Tables.{account_at, receipt_at, match_at, add_receipt, put_receipt, frozen_at, frozen_receipts, pay, charge}
use Rattle.book.specs.Receipts.{new_receipt}
use Rattle.book.specs.Pairing.{pair}
use Rattle.book.specs.Closing.{lapse_offers}
use Rattle.book.specs.Settlement.{value}
use Rattle.book.specs.Entries.{Entry}
use Rattle.book.specs.Lists.{Reached, opened, called}
use Rattle.book.specs.PaidFor.{EachPaidFor}
use Rattle.book.proofs.laws.Counting.{by_pick, by_eq, at_set, tally_most, impossible}
use Rattle.book.proofs.laws.Answered.{Answered, answered, of_opening}
use Rattle.book.proofs.laws.Sound.{frozen_of, Core, SoundTables}
use Rattle.book.proofs.laws.Tables.{frozen_add, frozen_set}
use Rattle.book.proofs.laws.Settling.{Settlement, Loads, pay_settles, measure_loads, invoice_settles, terminate_settles, hand_over_settles, auction_settles}
use Rattle.book.proofs.laws.Freezing.{newly, newly_free}
use Rattle.book.proofs.laws.Pairing.{Pairable, pair_core, pair_receipt, paired_receipts, paired_new, paired_old, paired_matches}
use Rattle.book.proofs.laws.Passes.{passes_keep}
use Rattle.book.proofs.laws.Taking.{take_pairable}
use Rattle.book.proofs.laws.Steps.{reached_tables}

-- as many receipts as its units are frozen for each match that is paid for
abbrev Full : Book → Type 0
Full b = (j : ℕ) → j < b.match_count → is_paid_for (match_at b j).stage ≡ true → (match_at b j).units ≤ frozen_receipts b j

-- ---- a settlement

full_settled : {b e : Book} {n : ℕ} {es : List Entry} → SoundTables b → Settlement b n es e → Full b → Full e
unfolding frozen_receipts
full_settled {b} {e} {n = n} r s f =
    let c = with_held (match_at b n) s.held s.stage in
    let rows = e.receipts in
    subst Full (sym s.same) (λ k. by_eq k n
    (λ q. subst (λ (i : ℕ). i < b.match_count → is_paid_for (get_or (set b.matches n c) i blank_match).stage ≡ true → (get_or (set b.matches n c) i blank_match).units ≤ frozen_of b.receipt_count rows i) (sym q)
    (λ h. rw (get_or-set_same b.matches n c blank_match (omega (arith, r.core.matches.size, r.core.matches.few))) s.all_frozen))
    (λ q h. rw (get_or-set_other b.matches n k c blank_match q) (λ g. omega (arith, f k h g, s.others k q))))

full_loaded : {b e : Book} {es : List Entry} → SoundTables b → Loads b es e → Full b → Full e
unfolding frozen_receipts
full_loaded {b} r (Loads.records j d x p s t) f = λ k.
    at_set (λ (m : Match). k < b.match_count → is_paid_for m.stage ≡ true → m.units ≤ frozen_of b.receipt_count b.receipts k) b.matches j k (with_vessel (match_at b j) d x) blank_match
    (λ q. subst (λ (i : ℕ). k < b.match_count → is_paid_for (match_at b i).stage ≡ true → (match_at b i).units ≤ frozen_of b.receipt_count b.receipts k) q (f k)) (f k)
full_loaded r (Loads.settles s) f = full_settled r s f

-- ---- receipts lodged and struck

full_lodged : {b : Book} (x : Receipt) → SoundTables b → b.receipt_count < 256 → Full b → Full (add_receipt b x)
unfolding frozen_receipts
full_lodged {b} x r h f j i g = omega (arith, f j i g, frozen_add b.receipts b.receipt_count x j (omega (arith, r.core.receipts.size)))

full_struck : {b : Book} (i : ℕ) (x : Receipt) → SoundTables b → i < b.receipt_count → (receipt_at b i).state ≡ ReceiptState.Free → Full b → Full (put_receipt b i x)
unfolding frozen_receipts
full_struck {b} i x r h e f j k g =
    let old : one_if (is_frozen_for j (receipt_at b i).state) ≡ 0 = ap (λ (s : ReceiptState). one_if (is_frozen_for j s)) e in
    omega (arith, f j k g, frozen_set b.receipts b.receipt_count i x j h (omega (arith, r.core.receipts.size, r.core.receipts.few)))

-- ---- a pairing

full_pair : (b : Book) (c : Bool) (days buyer seller u : ℕ) → days ≤ 2 → Core b → Pairable b buyer seller u → Full b → Full (pair b c days buyer seller u)
unfolding frozen_receipts frozen_at
full_pair b c days buyer seller u d r p f =
    let e = pair b c days buyer seller u in
    let q = pair_core b c days buyer seller u d p r in
    let n = b.match_count in
    λ k h g. by_eq k n
    (λ z. impossible (cc (ap (λ (i : ℕ). is_paid_for (match_at e i).stage) z, ap (λ (m : Match). is_paid_for m.stage) (paired_new p q r))))
    (λ z.
    let row = paired_old p q r k z in
    let kept : frozen_of b.receipt_count b.receipts k ≤ frozen_of b.receipt_count e.receipts k =
    tally_most (frozen_at b.receipts k) (frozen_at e.receipts k) b.receipt_count 0 (λ i a w. rw (pair_receipt b c days buyer seller u r i (omega arith))
    (by_pick (λ (x : Receipt). one_if (is_frozen_for k (receipt_at b i).state) ≤ one_if (is_frozen_for k x.state)) (newly c seller u b.receipts i)
    (λ t. rw (newly_free c seller u b.receipts i t).state (omega arith)) (λ t. omega arith))) in
    rw (paired_receipts q) (omega (arith, f k (omega (arith, paired_matches q)) (ap (λ (m : Match). is_paid_for m.stage) (sym row) ∙ g), ap (λ (m : Match). m.units) row)))

-- ---- the calls

full : {b : Book} {c : Call} {o : Outcome} → Answered b c o → SoundTables b → Full b → Full o.book
unfolding frozen_receipts pay charge lapse_offers
full (Answered.refused n p) r f = f
full (Answered.joins g) r f = f
full (Answered.deposits g) r f = f
full (Answered.withdraws g) r f = f
full (Answered.trades g) r f = f
full (Answered.lodges {owner = k} {class = c} g) r f = full_lodged (new_receipt k c) r g.space f
full {b} (Answered.strikes {i = i} g) r f = full_struck i _ r g.there g.free f
full (Answered.declares g) r f = f
full (Answered.offers g) r f = f
full (Answered.retracts g) r f = f
full {b} (Answered.takes {buyer = m} {seller = n} g) r f = full_pair b any_class 2 m n (offer_units (account_at b n).offer) (omega arith) r.core (take_pairable r g) f
full (Answered.days g) r f = f
full {b} (Answered.closes {budget = budget} g) r f = (passes_keep Full (λ e c x y u k g h. full_pair e c 1 x y u (omega arith) k g h) b budget (r.matches_open g.is_open) r.core f).kept
full {b} (Answered.pays {j = j} g) r f = full_settled r (pay_settles b r j g.there g.paired) f
full {b} (Answered.measures {j = j} {w = w} {q = q} {m = m} {s = s} {f = v} {a = a} {d = d} g) r f = full_loaded r (measure_loads b r j g.there g.prepaid d w q m s v a g.due) f
full {b} (Answered.invoices {j = j} g) r f = full_settled r (invoice_settles b r j g.there g.in_hold) f
full {b} (Answered.terminates {j = j} {party = party} g) r f = full_settled r (terminate_settles b r j g.there g.prepaid party) f
full {b} (Answered.hands_over {j = j} g) r f = full_settled r (hand_over_settles b r j g.there g.funded) f
full {b} (Answered.auctions {j = j} {winner = k} {x = x} g) r f = full_settled r (auction_settles b r j g.there g.awaiting k x g.winner_there g.few) f

reached_full : {b : Book} → Reached b → Full b
reached_full (opened heats s kind t r p e) = of_opening Full (λ heats s board t r p g₁ g₂ g₃ g₄ g₅ j h. absurd (omega arith)) heats s kind t r p
reached_full (called {b = b} c h) = full (answered b c) (reached_tables h) (reached_full h)

pub paid_for : EachPaidFor
unfolding frozen_receipts value
paid_for b h j i e =
    let r = (reached_tables h).core in
    let m = r.matches.rows j i in
    record {
      receipts_book = m.paid_for_board e;
      value_held = m.paid_for_value e;
      all_frozen = omega (arith, r.receipts.no_more j i, reached_full h j i e);
      sellers = λ k g s. (r.receipts.rows k g).frozen_seller j s;
    }
