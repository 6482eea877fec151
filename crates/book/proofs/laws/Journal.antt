-- What a call does with money: it is refused, moves none, makes an account, pays in, pays out, or settles a match. By cases on the answer; the
-- laws of money go by cases on these six. Assumes nothing.
use Rattle.std.specs.Prelude.{◌≡◌, refl, Bool, true, false, List, [], ◌∷◌, ℕ, ◌+◌, ◌≤◌, ◌<◌, pos, length}
use Rattle.std.proofs.Common.{sym, ap, ◌∙◌, subst, arith}
use Rattle.std.specs.Int.Signed.{lt_z}
use Rattle.book.specs.Types.{Account, Receipt, Match, Book, Outcome, Call}
use Rattle.book.specs.Counting.{sum}
use Rattle.book.specs.Rows.{blank_account, blank_match, any_class, offer_units, units_off}
use Rattle.book.specs.Tables.{account_at, match_at, with_receipts, with_open, with_day, with_deposited, put_account, add_account, add_match, pay, charge}
use Rattle.book.specs.Answers.{is_accepted}
use Rattle.book.specs.Accounts.{new_account}
use Rattle.book.specs.Pairing.{take_units, new_match, pair}
use Rattle.book.specs.Closing.{all_passes, lapse_offers}
use Rattle.book.specs.Calls.{step}
use Rattle.book.specs.Entries.{Entry, plus, minus, entries}
use Rattle.book.specs.Lists.{amounts, accepts}
use Rattle.book.specs.Demand3.{total_held}
use Rattle.book.proofs.laws.Counting.{at_set, sum_add}
use Rattle.book.proofs.laws.Answered.{Answered, answered}
use Rattle.book.proofs.laws.Sound.{Core, SoundTables}
use Rattle.book.proofs.laws.Posting.{Posted}
use Rattle.book.proofs.laws.Settling.{rank, Settlement, Loads, vessel_sum, pay_settles, measure_loads, invoice_settles, terminate_settles, hand_over_settles, auction_settles}
use Rattle.book.proofs.laws.Calls.{deposit_posted, withdraw_posted}
use Rattle.book.proofs.laws.Pairing.{Pairable, pair_core}
use Rattle.book.proofs.laws.Closing.{lapsed}
use Rattle.book.proofs.laws.Passes.{passes_keep}
use Rattle.book.proofs.laws.Taking.{take_pairable}

-- how far all matches have come, added up: every settlement raises it
unfoldable pub stages : Book → ℕ
stages b = sum b.match_count 0 (λ j. rank (match_at b j).stage)

-- ---- no money moves from b to e, and its heat table is as it was

pub record Kept (b e : Book) : Type 0 where
  pub count : e.account_count ≡ b.account_count
  pub cash : (k : ℕ) → (account_at e k).cash ≡ (account_at b k).cash
  pub held : total_held e ≡ total_held b
  pub stages : stages e ≡ stages b
  pub fund : e.fund ≡ b.fund
  pub deposited : e.deposited ≡ b.deposited
  pub heats : e.heats ≡ b.heats

kept_then : {b c e : Book} → Kept b c → Kept c e → Kept b e
kept_then h g = record { count = g.count ∙ h.count; cash = λ k. g.cash k ∙ h.cash k; held = g.held ∙ h.held; stages = g.stages ∙ h.stages; fund = g.fund ∙ h.fund; deposited = g.deposited ∙ h.deposited; heats = g.heats ∙ h.heats }

-- other receipts, another day, an open or shut market
kept_frame : (b : Book) (l : List Receipt) (n p d : ℕ) (o : Bool) → Kept b (with_open (with_day (with_receipts b l n) p d) o)
unfolding total_held stages
kept_frame b l n p d o = record { count = refl; cash = λ k. refl; held = refl; stages = refl; fund = refl; deposited = refl; heats = refl }

kept_receipts : (b : Book) (l : List Receipt) (n : ℕ) → Kept b (with_receipts b l n)
kept_receipts b l n = kept_frame b l n b.price b.day b.«open»

kept_account : (b : Book) (k : ℕ) (a : Account) → a.cash ≡ (account_at b k).cash → Kept b (put_account b k a)
unfolding total_held stages
kept_account b k a e = record {
  count = refl;
  cash = λ j. at_set (λ (x : Account). x.cash ≡ (account_at b j).cash) b.accounts k j a blank_account (λ q. e ∙ ap (λ (i : ℕ). (account_at b i).cash) (sym q)) refl;
  held = refl;
  stages = refl;
  fund = refl;
  deposited = refl;
  heats = refl;
}

-- a match more, with nothing held, that is paired
kept_match : (b : Book) (m : Match) → b.match_count < length b.matches → m.held ≡ 0 → rank m.stage ≡ 0 → Kept b (add_match b m)
unfolding total_held stages
kept_match b m h e f = record {
  count = refl;
  cash = λ k. refl;
  held = sum_add (λ m. m.held) b.matches b.match_count m blank_match h ∙ omega arith;
  stages = sum_add (λ m. rank m.stage) b.matches b.match_count m blank_match h ∙ omega arith;
  fund = refl;
  deposited = refl;
  heats = refl;
}

kept_pair : (b : Book) (c : Bool) (days x y u : ℕ) → days ≤ 2 → Core b → Pairable b x y u → Kept b (pair b c days x y u)
kept_pair b c days x y u d r p =
    let q = pair_core b c days x y u d p r in
    let m = new_match b x y u days in
    let once = add_match b m in
    let twice = take_units once x u in
    subst (Kept b) (sym q.same)
    (kept_then (kept_match b m (omega (arith, r.matches.size, p.room)) refl refl)
    (kept_then (kept_account once x (units_off (account_at once x) u) refl)
    (kept_then (kept_account twice y (units_off (account_at twice y) u) refl) (kept_receipts (take_units twice y u) (pair b c days x y u).receipts b.receipt_count))))

kept_close : (b : Book) (budget : ℕ) → SoundTables b → b.«open» ≡ true → Kept b (with_open (lapse_offers (all_passes b budget)) false)
unfolding lapse_offers total_held stages
kept_close b budget r o =
    let d = all_passes b budget in
    let p = passes_keep (Kept b) (λ e c x y u k g h. kept_then h (kept_pair e c 1 x y u (omega arith) k g)) b budget (r.matches_open o) r.core (kept_receipts b b.receipts b.receipt_count) in
    let t = p.core.accounts in
    let l = lapsed d (omega (arith, t.size, t.few)) in
    kept_then p.kept (record { count = refl; cash = λ k. ap (λ (a : Account). a.cash) (l.rows k); held = refl; stages = refl; fund = refl; deposited = refl; heats = refl })

-- ---- the six changes

-- from b to a book by a call, accepted or not, with its entries, what it deposits and what it withdraws
pub data Change (b : Book) : List Entry → ℕ → ℕ → Bool → Book → Type 0 where
  refused : {es : List Entry} {d w : ℕ} → Change b es d w false b
  kept : {e : Book} → Kept b e → Change b [] 0 0 true e
  joined : (a : Account) → a.cash ≡ pos 0 → Change b [] 0 0 true (add_account b a)
  paid_in : (k x : ℕ) → k < b.account_count → Posted b.accounts (pay (with_deposited b (b.deposited + x)) k x).accounts (plus k x ∷ []) → Change b (plus k x ∷ []) x 0 true (pay (with_deposited b (b.deposited + x)) k x)
  paid_out : (k x : ℕ) → k < b.account_count → lt_z (account_at b k).cash (pos x) ≡ false → Posted b.accounts (charge b k x).accounts (minus k x ∷ []) → Change b (minus k x ∷ []) 0 x true (charge b k x)
  settled : {j : ℕ} {es : List Entry} {e : Book} → Settlement b j es e → Change b es 0 0 true e

loaded : {b e : Book} {es : List Entry} → Loads b es e → SoundTables b → Change b es 0 0 true e
unfolding total_held stages
loaded {b} (Loads.records j d x p s t) r = kept (record {
  count = refl;
  cash = λ k. refl;
  held = vessel_sum b (λ m. m.held) j d x p r refl;
  stages = vessel_sum b (λ m. rank m.stage) j d x p r refl;
  fund = refl;
  deposited = refl;
  heats = refl;
})
loaded (Loads.settles s) r = settled s

change : {b : Book} {c : Call} {o : Outcome} → Answered b c o → SoundTables b → Change b (entries b c) (amounts c).deposited (amounts c).withdrawn (is_accepted o.answer) o.book
unfolding entries amounts
change (Answered.refused n p) r = refused
change (Answered.joins {residence = h} {fitness = f} g) r = joined (new_account h f) refl
change {b} (Answered.deposits {k = k} {x = x} g) r = paid_in k x g.there (deposit_posted r g)
change {b} (Answered.withdraws {k = k} {x = x} g) r = paid_out k x g.there g.enough (withdraw_posted r g)
change {b} (Answered.trades {buyer = m} {seller = n} g) r = kept (kept_then (kept_account b m _ refl) (kept_account _ n _ refl))
change {b} (Answered.lodges g) r = kept (kept_receipts b _ _)
change {b} (Answered.strikes g) r = kept (kept_receipts b _ _)
change {b} (Answered.declares {k = k} g) r = kept (kept_account b k _ refl)
change {b} (Answered.offers {seller = n} g) r = kept (kept_account b n _ refl)
change {b} (Answered.retracts {seller = n} g) r = kept (kept_account b n _ refl)
change {b} (Answered.takes {buyer = m} {seller = n} g) r = kept (kept_then (kept_pair b any_class 2 m n (offer_units (account_at b n).offer) (omega arith) r.core (take_pairable r g)) (kept_account _ n _ refl))
change {b} (Answered.days {p = p} g) r = kept (kept_frame b b.receipts b.receipt_count p (b.day + 1) b.«open»)
change {b} (Answered.closes {budget = budget} g) r = kept (kept_close b budget r g.is_open)
change {b} (Answered.pays {j = j} g) r = settled (pay_settles b r j g.there g.paired)
change {b} (Answered.measures {j = j} {w = w} {q = q} {m = m} {s = s} {f = f} {a = a} {d = d} g) r = loaded (measure_loads b r j g.there g.prepaid d w q m s f a g.due) r
change {b} (Answered.invoices {j = j} g) r = settled (invoice_settles b r j g.there g.in_hold)
change {b} (Answered.terminates {j = j} {party = party} g) r = settled (terminate_settles b r j g.there g.prepaid party)
change {b} (Answered.hands_over {j = j} g) r = settled (hand_over_settles b r j g.there g.funded)
change {b} (Answered.auctions {j = j} {winner = k} {x = x} g) r = settled (auction_settles b r j g.there g.awaiting k x g.winner_there g.few)

pub changed : (b : Book) (c : Call) → SoundTables b → Change b (entries b c) (amounts c).deposited (amounts c).withdrawn (accepts b c) (step b c).book
changed b c r = change (answered b c) r
