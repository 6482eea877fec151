-- Demand 3, the units: over every list of calls, units traded are those in matches and those still long, and units long are units short. By cases
-- on the answer, then over the list. Assumes nothing.
use Rattle.std.specs.Prelude.{◌≡◌, refl, Bool, true, false, List, [], ◌∷◌, ℕ, ◌+◌, ◌≤◌, ◌<◌, get_or, set}
use Rattle.std.proofs.Common.{sym, ap, ◌∙◌, arith, length-set, get_or-set_other}
use Rattle.coal.specs.Choice.{pick}
use Rattle.heats.specs.HeatTables.{IsHeatTable}
use Rattle.book.specs.Types.{Side, Account, Receipt, Match, Book, Outcome, Call}
use Rattle.book.specs.Counting.{sum}
use Rattle.book.specs.Rows.{blank_account, blank_match, is_long, is_short, long_units, short_units, offer_units, any_class, units_on}
use Rattle.book.specs.Tables.{account_at, match_at, put_account, with_receipts, with_open, with_day, add_account, pay, charge}
use Rattle.book.specs.Answers.{is_accepted}
use Rattle.book.specs.Opening.{opening}
use Rattle.book.specs.Accounts.{new_account, traded}
use Rattle.book.specs.Pairing.{new_match, pair}
use Rattle.book.specs.Closing.{all_passes, lapse_offers}
use Rattle.book.specs.Calls.{step}
use Rattle.book.specs.Entries.{Entry}
use Rattle.book.specs.Lists.{after, amounts, units_traded, sum_accepted}
use Rattle.book.specs.Demand3.{units_in_matches, units_long, units_short}
use Rattle.book.proofs.laws.Counting.{by_pick, sum_same, sum_set, sum_add, at_set}
use Rattle.book.proofs.laws.Answered.{MayTrade, Answered, answered, of_opening}
use Rattle.book.proofs.laws.Sound.{SoundAccount, Core, SoundTables}
use Rattle.book.proofs.laws.Posting.{Posted}
use Rattle.book.proofs.laws.Settling.{Settlement, Loads, vessel_sum, settlement_sum, pay_settles, measure_loads, invoice_settles, terminate_settles, hand_over_settles, auction_settles}
use Rattle.book.proofs.laws.Calls.{cell, opening_tables, deposit_posted, withdraw_posted}
use Rattle.book.proofs.laws.Pairing.{Pairable, pair_core, off_units, paired_sum}
use Rattle.book.proofs.laws.Closing.{lapsed}
use Rattle.book.proofs.laws.Passes.{passes_keep}
use Rattle.book.proofs.laws.Taking.{take_pairable}
use Rattle.book.proofs.laws.Steps.{step_tables}

-- from b to e, t units are traded; long and short go up and down together
pub record Even (b e : Book) (t : ℕ) : Type 0 where
  pub traded : units_in_matches e + units_long e ≡ units_in_matches b + units_long b + t
  pub balanced : units_long e + units_short b ≡ units_short e + units_long b

even_then : {b c e : Book} {t : ℕ} → Even b c 0 → Even c e t → Even b e t
even_then s r = record { traded = omega (arith, s.traded, r.traded); balanced = omega (arith, s.balanced, r.balanced) }

-- ---- changes that leave the units

-- an account on the same side with as many units
record Placed (a c : Account) : Type 0 where
  side : c.side ≡ a.side
  units : c.units ≡ a.units

even_placed : {b e : Book} → e.account_count ≡ b.account_count → ((k : ℕ) → Placed (account_at b k) (account_at e k)) → units_in_matches e ≡ units_in_matches b → Even b e 0
unfolding units_long units_short
even_placed {b} {e} c h m =
    let n = b.account_count in
    let l : units_long e ≡ units_long b = ap (λ (n : ℕ). sum n 0 (λ k. long_units (account_at e k))) c ∙ sum_same _ _ n 0 (λ k x y. let p = h k in rw (p.side, p.units)) in
    let s : units_short e ≡ units_short b = ap (λ (n : ℕ). sum n 0 (λ k. short_units (account_at e k))) c ∙ sum_same _ _ n 0 (λ k x y. let p = h k in rw (p.side, p.units)) in
    record { traded = omega arith; balanced = omega arith }

-- other receipts, another day, an open or shut market
even_frame : (b : Book) (l : List Receipt) (n p d : ℕ) (o : Bool) → Even b (with_open (with_day (with_receipts b l n) p d) o) 0
unfolding units_long units_short units_in_matches
even_frame b l n p d o = record { traded = omega arith; balanced = omega arith }

even_none : (b : Book) → Even b b 0
even_none b = even_frame b b.receipts b.receipt_count b.price b.day b.«open»

even_put : (b : Book) (k : ℕ) (a : Account) → a.side ≡ (account_at b k).side → a.units ≡ (account_at b k).units → Even b (put_account b k a) 0
unfolding units_in_matches
even_put b k a s u = even_placed refl (λ j. at_set (Placed (account_at b j)) b.accounts k j a blank_account
    (λ q. record { side = s ∙ ap (λ (i : ℕ). (account_at b i).side) (sym q); units = u ∙ ap (λ (i : ℕ). (account_at b i).units) (sym q) }) (record { side = refl; units = refl })) refl

even_posted : {b e : Book} {es : List Entry} → e.account_count ≡ b.account_count → Posted b.accounts e.accounts es → units_in_matches e ≡ units_in_matches b → Even b e 0
even_posted c p m = even_placed c (λ k. record { side = ap (λ (a : Account). a.side) (p.rows k); units = ap (λ (a : Account). a.units) (p.rows k) }) m

even_settled : {b e : Book} {j : ℕ} {es : List Entry} → SoundTables b → Settlement b j es e → Even b e 0
unfolding units_in_matches
even_settled r s = even_posted (ap (λ (x : Book). x.account_count) s.same) s.posted (omega (arith, settlement_sum (λ (m : Match). m.units) s r))

even_loaded : {b e : Book} {es : List Entry} → SoundTables b → Loads b es e → Even b e 0
unfolding units_in_matches
even_loaded {b} r (Loads.records j d x p s t) = even_placed refl (λ k. record { side = refl; units = refl }) (vessel_sum b (λ m. m.units) j d x p r refl)
even_loaded r (Loads.settles s) = even_settled r s

-- ---- a pairing

pub even_pair : (b : Book) (c : Bool) (days buyer seller u : ℕ) → days ≤ 2 → Core b → Pairable b buyer seller u → Even b (pair b c days buyer seller u) 0
unfolding units_long units_short units_in_matches
even_pair b c days buyer seller u d r p =
    let q = pair_core b c days buyer seller u d p r in
    let x = account_at b buyer in
    let y = account_at b seller in
    let l = paired_sum p q r long_units in
    let s = paired_sum p q r short_units in
    let n = b.match_count in
    let m = new_match b buyer seller u days in
    let e = pair b c days buyer seller u in
    let g : sum e.match_count 0 (λ j. (match_at e j).units) ≡ sum (n + 1) 0 (λ j. (get_or (set b.matches n m) j blank_match).units) = ap (λ (z : Book). sum z.match_count 0 (λ j. (match_at z j).units)) q.same in
    let k = sum_add (λ (z : Match). z.units) b.matches n m blank_match (omega (arith, r.matches.size, p.room)) in
    let a₁ = off_units is_long refl x u in
    let a₂ = off_units is_short refl x u in
    let a₃ = off_units is_long refl y u in
    let a₄ = off_units is_short refl y u in
    let a₅ : (long_units x ≡ x.units) × (short_units x ≡ 0) = (rw p.buyer_long, rw p.buyer_long) in
    let a₆ : (short_units y ≡ y.units) × (long_units y ≡ 0) = (rw p.seller_short, rw p.seller_short) in
    record { traded = omega (arith, p.buyer_has, a₅.0, a₆.1); balanced = omega (arith, p.buyer_has, p.seller_has, a₅.0, a₅.1, a₆.0, a₆.1) }

even_close : (b : Book) (budget : ℕ) → SoundTables b → b.«open» ≡ true → Even b (with_open (lapse_offers (all_passes b budget)) false) 0
unfolding lapse_offers units_in_matches
even_close b budget r o =
    let d = all_passes b budget in
    let p = passes_keep (λ (e : Book). Even b e 0) (λ e c x y u k g h. even_then h (even_pair e c 1 x y u (omega arith) k g)) b budget (r.matches_open o) r.core (even_none b) in
    let t = p.core.accounts in
    let l = lapsed d (omega (arith, t.size, t.few)) in
    even_then p.kept (even_placed refl (λ k. record { side = ap (λ (a : Account). a.side) (l.rows k); units = ap (λ (a : Account). a.units) (l.rows k) }) refl)

-- ---- Join and Trade

even_join : (b : Book) (residence fitness : ℕ) → b.account_count < 32 → SoundTables b → Even b (add_account b (new_account residence fitness)) 0
unfolding units_long units_short units_in_matches
even_join b residence fitness h r =
    let a = new_account residence fitness in
    let n = b.account_count in
    let l = sum_add long_units b.accounts n a blank_account (omega (arith, r.core.accounts.size)) in
    let s = sum_add short_units b.accounts n a blank_account (omega (arith, r.core.accounts.size)) in
    record { traded = omega arith; balanced = omega arith }

-- units added on the side of a test, to an account that is on no other
on_side : {day : ℕ} (f : Side → Bool) (a : Account) (u : ℕ) → SoundAccount day a → (f a.side ≡ false → a.side ≡ Side.Flat) → a.units + u ≡ pick (f a.side) a.units 0 + u
on_side f a u r h = by_pick (λ (x : ℕ). a.units + u ≡ x + u) (f a.side) (λ e. refl) (λ e. omega (arith, r.flat_none (h e)))

flat_is : (s : Side) → is_long s ≡ false → is_short s ≡ false → s ≡ Side.Flat
flat_is Side.Flat e q = refl
flat_is Side.Long e q = cc
flat_is Side.Short e q = cc

even_trade : (b : Book) (buyer seller u : ℕ) → MayTrade b buyer seller u → SoundTables b → Even b (traded b buyer seller u) u
unfolding units_long units_short units_in_matches
even_trade b buyer seller u g r =
    let t = r.core.accounts in
    let n = b.account_count in
    let x = account_at b buyer in
    let y = account_at b seller in
    let x' = units_on x Side.Long u b.day in
    let l = set b.accounts buyer x' in
    let q : get_or l seller blank_account ≡ y = get_or-set_other b.accounts buyer seller x' blank_account (λ z. g.two (sym z)) in
    let y' = units_on (get_or l seller blank_account) Side.Short u b.day in
    let l₁ = sum_set long_units b.accounts n buyer x' blank_account g.buyer_there (cell r buyer g.buyer_there) in
    let s₁ = sum_set short_units b.accounts n buyer x' blank_account g.buyer_there (cell r buyer g.buyer_there) in
    let l₂ = sum_set long_units l n seller y' blank_account g.seller_there (rw length-set (cell r seller g.seller_there)) in
    let s₂ = sum_set short_units l n seller y' blank_account g.seller_there (rw length-set (cell r seller g.seller_there)) in
    let a₁ = on_side is_long x u (t.rows buyer g.buyer_there) (λ e. flat_is _ e g.buyer_side) in
    let a₂ : short_units x ≡ 0 = rw g.buyer_side in
    let a₃ = on_side is_short y u (t.rows seller g.seller_there) (λ e. flat_is _ g.seller_side e) in
    let a₄ : long_units y ≡ 0 = rw g.seller_side in
    let a₅ = ap long_units q in
    let a₆ = ap short_units q in
    let a₇ = ap (λ (a : Account). short_units (units_on a Side.Short u b.day)) q in
    record { traded = omega arith; balanced = omega arith }

-- ---- the calls

even : {b : Book} {c : Call} {o : Outcome} → Answered b c o → SoundTables b → Even b o.book (pick (is_accepted o.answer) (amounts c).traded 0)
unfolding amounts pay charge units_in_matches
even {b} (Answered.refused n p) r = even_none b
even {b} (Answered.joins {residence = k} {fitness = f} g) r = even_join b k f g.space r
even {b} (Answered.deposits g) r = even_posted refl (deposit_posted r g) refl
even {b} (Answered.withdraws g) r = even_posted refl (withdraw_posted r g) refl
even {b} (Answered.trades {buyer = m} {seller = n} {u = u} g) r = even_trade b m n u g r
even {b} (Answered.lodges g) r = even_frame b _ _ b.price b.day b.«open»
even {b} (Answered.strikes g) r = even_frame b _ _ b.price b.day b.«open»
even {b} (Answered.declares {k = k} g) r = even_put b k _ refl refl
even {b} (Answered.offers {seller = n} g) r = even_put b n _ refl refl
even {b} (Answered.retracts {seller = n} g) r = even_put b n _ refl refl
even {b} (Answered.takes {buyer = m} {seller = n} g) r = even_then (even_pair b any_class 2 m n (offer_units (account_at b n).offer) (omega arith) r.core (take_pairable r g)) (even_put _ n _ refl refl)
even {b} (Answered.days {p = p} g) r = even_frame b b.receipts b.receipt_count p (b.day + 1) b.«open»
even {b} (Answered.closes {budget = budget} g) r = even_close b budget r g.is_open
even {b} (Answered.pays {j = j} g) r = even_settled r (pay_settles b r j g.there g.paired)
even {b} (Answered.measures {j = j} {w = w} {q = q} {m = m} {s = s} {f = f} {a = a} {d = d} g) r = even_loaded r (measure_loads b r j g.there g.prepaid d w q m s f a g.due)
even {b} (Answered.invoices {j = j} g) r = even_settled r (invoice_settles b r j g.there g.in_hold)
even {b} (Answered.terminates {j = j} {party = party} g) r = even_settled r (terminate_settles b r j g.there g.prepaid party)
even {b} (Answered.hands_over {j = j} g) r = even_settled r (hand_over_settles b r j g.there g.funded)
even {b} (Answered.auctions {j = j} {winner = k} {x = x} g) r = even_settled r (auction_settles b r j g.there g.awaiting k x g.winner_there g.few)

-- ---- lists

list_even : (b : Book) (cs : List Call) → SoundTables b → Even b (after b cs) (units_traded b cs)
unfolding after sum_accepted
list_even b [] r = even_none b
list_even b (c ∷ cs) r =
    let s = even (answered b c) r in
    let t = list_even (step b c).book cs (step_tables b c r) in
    record { traded = omega (arith, s.traded, t.traded); balanced = omega (arith, s.balanced, t.balanced) }

opening_none : (heats : List ℕ) → IsHeatTable heats → (kind t r p : ℕ) → (units_long (opening heats kind t r p).book ≡ 0) × (units_short (opening heats kind t r p).book ≡ 0) × (units_in_matches (opening heats kind t r p).book ≡ 0)
unfolding units_long units_short units_in_matches sum
opening_none = of_opening (λ (b : Book). (units_long b ≡ 0) × (units_short b ≡ 0) × (units_in_matches b ≡ 0)) (λ heats s board t r p g₁ g₂ g₃ g₄ g₅. (refl, refl, refl))

module _ (heats : List ℕ) (s : IsHeatTable heats) (kind t r p : ℕ) (cs : List Call) where
  -- units traded = units in matches + units still long
  pub all_traded : units_traded (opening heats kind t r p).book cs ≡ units_in_matches (after (opening heats kind t r p).book cs) + units_long (after (opening heats kind t r p).book cs)
  all_traded = let z = opening_none heats s kind t r p in omega (arith, (list_even (opening heats kind t r p).book cs (opening_tables heats s kind t r p)).traded, z.0, z.2)

  -- units long = units short
  pub balanced : units_long (after (opening heats kind t r p).book cs) ≡ units_short (after (opening heats kind t r p).book cs)
  balanced = let z = opening_none heats s kind t r p in omega (arith, (list_even (opening heats kind t r p).book cs (opening_tables heats s kind t r p)).balanced, z.0, z.1)
