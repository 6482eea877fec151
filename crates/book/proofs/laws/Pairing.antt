-- A proper pairing: it keeps what holds of the tables, but for the offers, and what it leaves of accounts, matches and receipts.
-- Assumes nothing.
use Rattle.std.specs.Prelude.{◌≡◌, refl, ◌≢◌, Bool, true, false, List, ℕ, ◌+◌, ◌-◌, ◌≤◌, ◌<◌, eqb, get_or, set, None}
use Rattle.std.proofs.Common.{sym, ap, subst, arith, length-set, get_or-set_same, get_or-set_other, eqb-true}
use Rattle.std.proofs.lemmas.Bool.{eqb-false}
use Rattle.coal.specs.Choice.{pick}
use Rattle.book.specs.Types.{Side, Stage, Lots, Account, Receipt, Match, Book}
use Rattle.book.specs.Counting.{sum}
use Rattle.book.specs.Rows.{blank_account, blank_receipt, blank_match, with_position, lots_off, units_off, is_long, is_short, long_units, short_units, frozen_for, is_paid_for}
use Rattle.book.specs.Tables.{account_at, receipt_at, match_at, add_match, with_receipts}
use Rattle.book.specs.Pairing.{taken, take_units, new_match, freeze, pair}
use Rattle.book.proofs.laws.Counting.{by_pick, by_eq, at_set, sum_set, only, only_here, only_else, impossible}
use Rattle.book.proofs.laws.Sound.{SoundLots, SoundAccount, SoundMatch, ReceiptTable, Core}
use Rattle.book.proofs.laws.Tables.{account_placed, matches_add, core_put, NoneFrozen, not_frozen, receipts_rematched}
use Rattle.book.proofs.laws.Freezing.{newly, frozen_row, frozen_sound}

-- ---- a proper pairing

pub record Pairable (b : Book) (buyer seller u : ℕ) : Type 0 where
  pub buyer_there : buyer < b.account_count
  pub seller_there : seller < b.account_count
  pub buyer_long : (account_at b buyer).side ≡ Side.Long
  pub seller_short : (account_at b seller).side ≡ Side.Short
  pub some : 0 < u
  pub buyer_has : u ≤ (account_at b buyer).units
  pub seller_has : u ≤ (account_at b seller).units
  pub room : b.match_count < 256

pairable_two : {b : Book} {buyer seller u : ℕ} → Pairable b buyer seller u → buyer ≢ seller
pairable_two h e = impossible (cc)

-- sides by what is on them
pub long_side : (s : Side) (x u : ℕ) → 0 < u → u ≤ pick (is_long s) x 0 → ((s ≡ Side.Long) × (u ≤ x))
long_side Side.Flat x u h g = absurd (omega arith)
long_side Side.Long x u h g = (refl, g)
long_side Side.Short x u h g = absurd (omega arith)

pub short_side : (s : Side) (x u : ℕ) → 0 < u → u ≤ pick (is_short s) x 0 → ((s ≡ Side.Short) × (u ≤ x))
short_side Side.Flat x u h g = absurd (omega arith)
short_side Side.Long x u h g = absurd (omega arith)
short_side Side.Short x u h g = (refl, g)

pub pairable : (b : Book) (buyer seller u : ℕ) → buyer < b.account_count → seller < b.account_count → 0 < u → u ≤ long_units (account_at b buyer) → u ≤ short_units (account_at b seller)
    → b.match_count < 256 → Pairable b buyer seller u
pairable b buyer seller u h g s l m r =
    let x = long_side (account_at b buyer).side (account_at b buyer).units u s l in
    let y = short_side (account_at b seller).side (account_at b seller).units u s m in
    record { buyer_there = h; seller_there = g; buyer_long = x.0; seller_short = y.0; some = s; buyer_has = x.1; seller_has = y.1; room = r }

-- the two have the units
pub pairable_long : {b : Book} {buyer seller u : ℕ} → Pairable b buyer seller u → (k : ℕ) → only buyer u k ≤ long_units (account_at b k)
pairable_long {b} {buyer} {seller} {u} p k = by_eq k buyer (λ e. rw (e, only_here buyer u) (rw p.buyer_long p.buyer_has)) (λ e. omega (arith, only_else buyer u k e))

pub pairable_short : {b : Book} {buyer seller u : ℕ} → Pairable b buyer seller u → (k : ℕ) → only seller u k ≤ short_units (account_at b k)
pairable_short {b} {buyer} {seller} {u} p k = by_eq k seller (λ e. rw (e, only_here seller u) (rw p.seller_short p.seller_has)) (λ e. omega (arith, only_else seller u k e))

-- ---- it keeps what holds of the tables

-- the oldest lots first: of two lots one after the other, and of two parts of u
two_off : (x y u : ℕ) → x - u + (y - (u - x)) ≡ x + y - u
two_off x y u = omega arith

off_off : (u x y : ℕ) → u - x - y ≡ u - (x + y)
off_off u x y = omega arith

some_off : (x u : ℕ) → 0 < x - u → 0 < x
some_off x u h = omega arith

next_off : (x y u : ℕ) → (0 < x → 0 < y) → 0 < x - u → 0 < y - (u - x)
next_off x y u f h = let g = f (some_off x u h) in omega arith

off_whole : (x y z w u : ℕ) → x - u + (y - (u - x)) + (z - (u - x - y)) + (w - (u - x - y - z)) ≡ x + y + z + w - u
off_whole x y z w u = rw (two_off x y u, off_off u x y, two_off (x + y) z u, off_off u (x + y) z, two_off (x + y + z) w u)

off_lots : {day n : ℕ} (l : Lots) (u : ℕ) → SoundLots day n l → SoundLots day (n - u) (lots_off l u)
off_lots l u r = record {
  second_taken = next_off _ _ _ r.second_taken;
  third_taken = next_off _ _ _ r.third_taken;
  newest_taken = next_off _ _ _ r.newest_taken;
  second_day = r.second_day;
  third_day = r.third_day;
  newest_day = r.newest_day;
  past = r.past;
  second_later = λ h. r.second_later (some_off _ _ h);
  third_later = λ h. r.third_later (some_off _ _ h);
  newest_later = λ h. r.newest_later (some_off _ _ h);
  whole = rw (← r.whole) (off_whole l.oldest.units l.second.units l.third.units l.newest.units u);
}

off_sound : {day : ℕ} (a : Account) (u : ℕ) → SoundAccount day a → SoundAccount day (units_off a u)
off_sound {day} a u r = go (eqb (a.units - u) 0) refl
  where
    lots : SoundLots day (a.units - u) (lots_off a.lots u)
    lots = off_lots a.lots u r.in_lots

    go : (t : Bool) → eqb (a.units - u) 0 ≡ t → SoundAccount day (with_position a (pick t Side.Flat a.side) (a.units - u) (lots_off a.lots u))
    go true e = account_placed r (omega (arith, r.few)) (λ h. eqb-true _ _ e) (λ h. impossible (cc)) (λ h. impossible (cc)) lots
    go false e = let n = eqb-false (a.units - u) 0 e in account_placed r (omega (arith, r.few)) (λ h. omega (arith, r.flat_none h)) (λ h. omega arith) (λ h. omega arith) lots

-- no receipt is frozen for a match that is not there yet
beyond_none : {n m : ℕ} {ms : List Match} {board : Bool} {count : ℕ} {l : List Receipt} → ReceiptTable n m ms board count l → NoneFrozen count l m
beyond_none {m = m} {l = l} t i h = not_frozen (get_or l i blank_receipt).state m (λ k e q. omega (arith, (t.rows i h).frozen_there k e))

new_sound : (b : Book) (days buyer seller u : ℕ) → days ≤ 2 → Pairable b buyer seller u → Core b → SoundMatch b.account_count b.day b.tonnes b.board (new_match b buyer seller u days)
new_sound b days buyer seller u d p r =
    let s = r.accounts.rows seller p.seller_there in
    let few : u ≤ 1_000 = omega (arith, s.few, p.seller_has) in
    let none : 0 ≤ 22_000_000_000_000 = omega arith in
    search (unpaid {A = (account_at b seller).heat ≡ None → ⊥}, unpaid, not_paid_for, pairable_two, arith)
  where
    unpaid : {A : Type 0} → Stage.Paired ≡ Stage.Prepaid → A
    unpaid e = impossible (cc)

    not_paid_for : {A : Type 0} → is_paid_for Stage.Paired ≡ true → A
    not_paid_for e = impossible (cc)

core_match : (b : Book) (c : Match) → b.match_count < 256 → SoundMatch b.account_count b.day b.tonnes b.board c → Core b → Core (add_match b c)
core_match b c h m r =
    let l = receipts_rematched (b.match_count + 1) b.match_count c (omega arith) (λ k g d. omega arith) (beyond_none r.receipts) r.receipts in
    search matches_add

-- whatever units an account loses
off_core : (b : Book) (k u : ℕ) → k < b.account_count → Core b → Core (take_units b k u)
off_core b k u h r = core_put k (units_off (account_at b k) u) r (off_sound (account_at b k) u (r.accounts.rows k h))

taken_core : (b : Book) (days buyer seller u : ℕ) → days ≤ 2 → Pairable b buyer seller u → Core b → Core (taken b days buyer seller u)
taken_core b days buyer seller u d p r =
    off_core _ seller _ p.seller_there
    (off_core _ buyer _ p.buyer_there
    (core_match b (new_match b buyer seller u days) p.room (new_sound b days buyer seller u d p r) r))

-- what a pairing leaves of book b
pub record Paired (b : Book) (days buyer seller u : ℕ) (e : Book) : Type 0 where
  pub core : Core e
  pub same : e ≡ with_receipts (taken b days buyer seller u) e.receipts b.receipt_count

pub pair_core : (b : Book) (c : Bool) (days buyer seller u : ℕ) → days ≤ 2 → Pairable b buyer seller u → Core b → Paired b days buyer seller u (pair b c days buyer seller u)
unfolding pair freeze
pair_core b c days buyer seller u d p r =
    let k = taken_core b days buyer seller u d p r in
    let n = b.match_count in
    let m = new_match b buyer seller u days in
    let e : get_or (set b.matches n m) n blank_match ≡ m = get_or-set_same b.matches n m blank_match (omega (arith, r.matches.size, p.room)) in
    by_pick (Paired b days buyer seller u) b.board
    (λ q. record { core = k; same = refl })
    (λ q.
    let t = frozen_sound c seller u b.receipts n (omega arith) (ap (λ (x : Match). x.stage) e) (ap (λ (x : Match). x.seller) e) (omega (arith, ap (λ (x : Match). x.units) e)) (beyond_none r.receipts) k.receipts in
    record { core = search; same = refl })

-- each receipt of the book is as it was, or newly frozen for the new match
pub pair_receipt : (b : Book) (c : Bool) (days buyer seller u : ℕ) → Core b → (i : ℕ) → i < b.receipt_count
    → receipt_at (pair b c days buyer seller u) i ≡ pick (newly c seller u b.receipts i) (frozen_for b.match_count (receipt_at b i)) (receipt_at b i)
unfolding pair freeze
pair_receipt b c days buyer seller u r i h =
    by_pick (λ (e : Book). receipt_at e i ≡ pick (newly c seller u b.receipts i) (frozen_for b.match_count (receipt_at b i)) (receipt_at b i)) b.board
    (λ q. absurd (omega (arith, r.receipts.none q)))
    (λ q. frozen_row c seller u b.receipts b.match_count b.receipt_count i (omega (arith, r.receipts.size, r.receipts.few)) h)

-- ---- counts, accounts and matches after a pairing

pub paired_accounts : {b e : Book} {days buyer seller u : ℕ} → Paired b days buyer seller u e → e.account_count ≡ b.account_count
paired_accounts q = ap (λ (x : Book). x.account_count) q.same

pub paired_receipts : {b e : Book} {days buyer seller u : ℕ} → Paired b days buyer seller u e → e.receipt_count ≡ b.receipt_count
paired_receipts q = ap (λ (x : Book). x.receipt_count) q.same

pub paired_matches : {b e : Book} {days buyer seller u : ℕ} → Paired b days buyer seller u e → e.match_count ≡ b.match_count + 1
paired_matches q = ap (λ (x : Book). x.match_count) q.same

-- a test of sides that leaves out none: the units on it fall by u, or there are none
pub off_units : (f : Side → Bool) → f Side.Flat ≡ false → (a : Account) (u : ℕ) → pick (f (units_off a u).side) (units_off a u).units 0 ≡ pick (f a.side) a.units 0 - u
off_units f h a u =
    by_pick (λ (s : Side). pick (f s) (a.units - u) 0 ≡ pick (f a.side) a.units 0 - u) (eqb (a.units - u) 0)
    (λ e. rw h (let z : a.units - u ≡ 0 = eqb-true _ _ e in let y = go (f a.side) in by_pick (λ (x : ℕ). 0 ≡ x - u) (f a.side) (λ q. omega arith) (λ q. omega arith)))
    (λ e. go (f a.side))
  where
    go : (t : Bool) → pick t (a.units - u) 0 ≡ pick t a.units 0 - u
    go true = refl
    go false = omega arith

module _ {b e : Book} {days buyer seller u : ℕ} (p : Pairable b buyer seller u) (q : Paired b days buyer seller u e) (r : Core b) where
  paired_seller : account_at e seller ≡ units_off (account_at b seller) u
  paired_seller =
      let l = set b.accounts buyer (units_off (account_at b buyer) u) in
      rw (q.same, get_or-set_same l seller _ blank_account (rw length-set (omega (arith, p.seller_there, r.accounts.size, r.accounts.few))), get_or-set_other _ buyer seller _ blank_account (λ z. pairable_two p (sym z)))

  pub paired_buyer : account_at e buyer ≡ units_off (account_at b buyer) u
  paired_buyer =
      rw (q.same, get_or-set_other _ seller buyer _ blank_account (pairable_two p), get_or-set_same b.accounts buyer _ blank_account (omega (arith, p.buyer_there, r.accounts.size, r.accounts.few)))

  pub paired_other : (k : ℕ) → k ≢ buyer → k ≢ seller → account_at e k ≡ account_at b k
  paired_other k h g = rw (q.same, get_or-set_other _ seller k _ blank_account g, get_or-set_other _ buyer k _ blank_account h)

  -- what holds of each account as it was, or with u units off
  pub paired_row : (P : Account → Type 0) (k : ℕ) → P (account_at b k) → ((a : Account) → P a → P (units_off a u)) → P (account_at e k)
  paired_row P k h f =
      let l = set b.accounts buyer (units_off (account_at b buyer) u) in
      let g : P (get_or l k blank_account) = at_set P b.accounts buyer k (units_off (account_at b buyer) u) blank_account (λ z. subst (λ (i : ℕ). P (units_off (account_at b i) u)) z (f (account_at b k) h)) h in
      subst (λ (x : Book). P (account_at x k)) (sym q.same)
      (at_set P l seller k (units_off (get_or l seller blank_account) u) blank_account (λ z. subst (λ (i : ℕ). P (units_off (get_or l i blank_account) u)) z (f (get_or l k blank_account) g)) g)

  -- the buyer has u units less long, and nobody else
  pub paired_long : (k : ℕ) → long_units (account_at e k) ≡ long_units (account_at b k) - only buyer u k
  paired_long k = by_eq k buyer
      (λ z. rw (z, only_here buyer u) (rw paired_buyer (off_units is_long refl (account_at b buyer) u)))
      (λ z. rw (only_else buyer u k z) (by_eq k seller
      (λ w. rw w (rw (paired_seller, off_units is_long refl (account_at b seller) u, p.seller_short) (omega arith)))
      (λ w. rw (paired_other k z w) (omega arith))))

  -- the seller has u units less short, and nobody else
  pub paired_short : (k : ℕ) → short_units (account_at e k) ≡ short_units (account_at b k) - only seller u k
  paired_short k = by_eq k seller
      (λ z. rw (z, only_here seller u) (rw paired_seller (off_units is_short refl (account_at b seller) u)))
      (λ z. rw (only_else seller u k z) (by_eq k buyer
      (λ w. rw w (rw (paired_buyer, off_units is_short refl (account_at b buyer) u, p.buyer_long) (omega arith)))
      (λ w. rw (paired_other k w z) (omega arith))))

  -- the new match stands behind the others
  pub paired_new : match_at e b.match_count ≡ new_match b buyer seller u days
  paired_new = rw (q.same, get_or-set_same b.matches b.match_count _ blank_match (omega (arith, p.room, r.matches.size)))

  pub paired_old : (j : ℕ) → j ≢ b.match_count → match_at e j ≡ match_at b j
  paired_old j h = rw (q.same, get_or-set_other b.matches _ j _ blank_match h)

  -- a sum over the accounts: two terms change
  pub paired_sum : (f : Account → ℕ)
      → sum e.account_count 0 (λ k. f (account_at e k)) + f (account_at b buyer) + f (account_at b seller)
      ≡ sum b.account_count 0 (λ k. f (account_at b k)) + f (units_off (account_at b buyer) u) + f (units_off (account_at b seller) u)
  paired_sum f =
      let s = r.accounts.size in
      let n = r.accounts.few in
      let x = units_off (account_at b buyer) u in
      let l = set b.accounts buyer x in
      let o : get_or l seller blank_account ≡ account_at b seller = get_or-set_other b.accounts buyer seller x blank_account (λ z. pairable_two p (sym z)) in
      let y = units_off (get_or l seller blank_account) u in
      let g₀ : sum e.account_count 0 (λ k. f (account_at e k)) ≡ sum b.account_count 0 (λ k. f (get_or (set l seller y) k blank_account)) = ap (λ (z : Book). sum z.account_count 0 (λ k. f (account_at z k))) q.same in
      let g₁ = sum_set f l b.account_count seller y blank_account p.seller_there (rw length-set (omega (arith, p.seller_there))) in
      let g₂ = sum_set f b.accounts b.account_count buyer x blank_account p.buyer_there (omega (arith, p.buyer_there)) in
      let g₃ = ap f o in
      let g₄ = ap (λ (a : Account). f (units_off a u)) o in
      omega arith
