-- The three passes of Close and the end of the offers: whatever every proper pairing keeps, the passes keep, and they make at most 125 matches.
-- Assumes nothing.
use Rattle.std.specs.Prelude.{◌≡◌, ◌⊎◌, Bool, not, ◌&&◌, ℕ, zero, suc, ◌+◌, ◌-◌, ◌*◌, ◌≤◌, ◌<◌, min, get_or, Option, Some, None}
use Rattle.std.proofs.Math.Path.{refl, ap}
use Rattle.std.proofs.Common.{sym, ◌∙◌, inl, inr, length-set}
use Rattle.std.proofs.Math.Bool.{true, false}
use mathlib.Core.List.{List, [], ◌∷◌}
use native.Mathlib.Omega.{arith}
use Rattle.std.proofs.Math.Dec.{eqb, ltb}
use Rattle.std.proofs.Math.ListN.{length}
use borrow.Author.Tests.{ltb-true, ltb-false, eqb-true, lt-ltb, le-ltb}
use Rattle.coal.specs.Choice.{pick}
use Rattle.book.specs.Types.{Side, Lot, Account, Book, Listed}
use Rattle.book.specs.Counting.{All, lowest, those, tally, one_if}
use Rattle.book.specs.Rows.{blank_account, lots_of, is_long, is_short, long_units, short_units, any_class, bonded_only, with_offer, units_off}
use Rattle.book.specs.Tables.{account_at}
use Rattle.book.specs.Pairing.{pair}
use Rattle.book.specs.Closing.{use_up, walked, joined, pair_all, is_buyer, is_seller, is_overseas_buyer, with_units, with_lot, lots_in_order, overseas_lots, bonded_offer, bonded_sellers, buyers, sellers, first_pass, pair_whole, equal_seller, second_turn, second_pass, third_pass, old_passes, lapse_turn, lapse_offers}
use Rattle.book.specs.Ages.{lots_total}
use Rattle.book.proofs.laws.Counting.{by_pick, by_eq, rows_add, and_left, and_right, iter_keeps, at_set, tally_sum, one_most, tally_two, tally_either, tally_none, tally_one, tally_few, only, only_else, only_most}
use Rattle.book.proofs.laws.Sound.{AccountTable, Core}
use Rattle.book.proofs.laws.Pairing.{Pairable, long_side, short_side, pairable, Paired, pair_core, paired_accounts, paired_matches, paired_buyer, paired_row, paired_long, paired_short, paired_sum}
use Rattle.book.proofs.laws.Walking.{all_map, all_of, sum_of, left_of, use_up_left, use_up_length, Member, Listing, Passed, walk_keeps}
use Rattle.book.proofs.laws.Listing.{those_all, those_length, listed, listed_length, listed_left, listed_climbing, lots_all, lots_counted, lots_few}
use Rattle.book.specs.Joining.{join_lots}
use Rattle.book.proofs.laws.Joining.{joins_all, SomeLeft, joins_left, joins_length, joined_walked}
use Rattle.book.proofs.laws.Joining as Joining

-- ---- who is listed

module _ (b : Book) where
  -- those who are listed as offering bonded receipts
  abbrev pub is_offering : ℕ → Bool
  is_offering k = is_seller b k && ltb 0 (bonded_offer b k)

  abbrev units_of : ℕ → ℕ
  units_of k = (account_at b k).units

  -- what the first pass walks over: neighbouring lots of one account are one
  abbrev pub joined_lots : List Listed
  joined_lots = join_lots (overseas_lots b)

  pub bonded_left : (k : ℕ) → k < b.account_count → left_of k (bonded_sellers b) ≡ pick (is_offering k) (bonded_offer b k) 0
  unfolding bonded_sellers
  bonded_left k h = listed_left (bonded_offer b) is_offering k b.account_count h

  module _ (r : Core b) where
    pub buyer_some : (k : ℕ) → k < b.account_count → is_buyer b k ≡ true → 0 < (account_at b k).units
    buyer_some k h e = (r.accounts.rows k h).long_some (long_side (account_at b k).side 1 1 (omega arith) (rw e (omega arith))).0

    pub seller_some : (k : ℕ) → k < b.account_count → is_seller b k ≡ true → 0 < (account_at b k).units
    seller_some k h e = (r.accounts.rows k h).short_some (short_side (account_at b k).side 1 1 (omega arith) (rw e (omega arith))).0

    -- the accounts at which a test holds, with something for each
    members : (g : ℕ → ℕ) (p : ℕ → Bool) → ((k : ℕ) → k < b.account_count → p k ≡ true → 0 < g k) → All (λ k. Member b.account_count (listed g k)) (those b.account_count 0 p)
    members g p h = those_all (λ k. Member b.account_count (listed g k)) p b.account_count 0 (λ k x y e. record { there = omega arith; some = h k (omega arith) e })

    -- the units of an account's lots are its own
    lots_whole : (k : ℕ) → k < b.account_count → lots_total (λ x. x.units) (lots_of (account_at b k)) ≡ (account_at b k).units
    unfolding lots_total
    lots_whole k h = omega (arith, (r.accounts.rows k h).in_lots.whole)

    pub overseas_left : (k : ℕ) → k < b.account_count → left_of k joined_lots ≡ pick (is_overseas_buyer b k) (account_at b k).units 0
    unfolding overseas_lots
    overseas_left k h =
        joins_left k (overseas_lots b) ∙ lots_counted (λ x. x.left) (λ x e. e) k b (is_overseas_buyer b) b.account_count h
        ∙ ap (λ (u : ℕ). pick (is_overseas_buyer b k) u 0) (lots_whole k h)

    lots_members : All (Member b.account_count) (overseas_lots b)
    unfolding overseas_lots
    lots_members =
        let n = b.account_count in
        lots_all (Member n) b (those n 0 (is_overseas_buyer b))
        (those_all (λ k. (x : Lot) → 0 < x.units → Member n (with_lot k x)) (is_overseas_buyer b) n 0 (λ k a c e x h. record { there = omega arith; some = h }))

    -- the pairs of the first pass
    pub first_pairs : joined (walked (overseas_lots b) (bonded_sellers b)) ≡ walked joined_lots (bonded_sellers b)
    unfolding bonded_sellers
    first_pairs =
        joined_walked (overseas_lots b) (bonded_sellers b)
        (all_map (Member b.account_count) SomeLeft (overseas_lots b) (λ x h. h.some) lots_members)
        (listed_climbing (bonded_offer b) is_offering b.account_count 0)

    first_listing : Listing b joined_lots (bonded_sellers b)
    unfolding bonded_sellers
    first_listing =
        let n = b.account_count in
        record {
          buyers = joins_all (Member n) (λ x y p q. record { there = p.there; some = omega (arith, p.some) }) (overseas_lots b) lots_members;
          sellers = all_of (Member n) (listed (bonded_offer b)) (those n 0 is_offering) (members (bonded_offer b) is_offering (λ k h e. ltb-true _ _ (and_right (is_seller b k) _ e)));
          long = λ k h. rw (overseas_left k h) (go (account_at b k).overseas (is_long (account_at b k).side) (units_of k));
          short = λ k h. rw (bonded_left k h) (on (is_short (account_at b k).side) (ltb 0 (bonded_offer b k)) (bonded_offer b k) (units_of k) (omega arith));
        }
      where
        go : (s t : Bool) (x : ℕ) → pick (s && t) x 0 ≤ pick t x 0
        go true t x = omega arith
        go false t x = omega arith

        on : (s t : Bool) (x y : ℕ) → x ≤ y → pick (s && t) x 0 ≤ pick s y 0
        on true true x y h = h
        on true false x y h = omega arith
        on false t x y h = omega arith

    third_listing : Listing b (buyers b) (sellers b)
    unfolding buyers sellers
    third_listing =
        let n = b.account_count in
        record {
          buyers = all_of (Member n) (with_units b) (those n 0 (is_buyer b)) (members units_of (is_buyer b) buyer_some);
          sellers = all_of (Member n) (with_units b) (those n 0 (is_seller b)) (members units_of (is_seller b) seller_some);
          long = λ k h. omega (arith, listed_left units_of (is_buyer b) k n h);
          short = λ k h. omega (arith, listed_left units_of (is_seller b) k n h);
        }

-- ---- how many

-- accounts with units
abbrev pub busy : Book → ℕ
busy b = tally b.account_count 0 (λ k. ltb 0 (account_at b k).units)

-- overseas buyers, and those who are listed as offering bonded receipts
abbrev overseas : Book → ℕ
overseas b = tally b.account_count 0 (is_overseas_buyer b)

abbrev offering : Book → ℕ
offering b = tally b.account_count 0 (is_offering b)

lots_most : (b : Book) → length (joined_lots b) ≤ 4 * overseas b
unfolding overseas_lots
lots_most b =
    let l = those b.account_count 0 (is_overseas_buyer b) in
    omega (arith, joins_length (lots_in_order b l), lots_few b l, those_length (is_overseas_buyer b) b.account_count 0)

sellers_all : (b : Book) → length (bonded_sellers b) ≡ offering b
unfolding bonded_sellers
sellers_all b = listed_length (bonded_offer b) (is_offering b) b.account_count

first_few : (b : Book) → overseas b + offering b ≤ b.account_count
first_few b =
    let n = b.account_count in
    omega (arith, tally_few (λ k. true) n, tally_two (is_overseas_buyer b) (is_offering b) (λ k. true) n 0 (λ k i j. apart (account_at b k).side (account_at b k).overseas (ltb 0 (bonded_offer b k))))
  where
    apart : (s : Side) (o x : Bool) → one_if (o && is_long s) + one_if (is_short s && x) ≤ 1
    apart Side.Flat true x = omega arith
    apart Side.Flat false x = omega arith
    apart Side.Long true x = omega arith
    apart Side.Long false x = omega arith
    apart Side.Short true x = omega (arith, one_most x)
    apart Side.Short false x = omega (arith, one_most x)

third_few : (b : Book) → Core b → length (buyers b) + length (sellers b) ≤ busy b
unfolding buyers sellers
third_few b r =
    let n = b.account_count in
    let x = tally_two (is_buyer b) (is_seller b) (λ k. ltb 0 (account_at b k).units) n 0 (λ k i j. go (account_at b k).side refl (omega arith)) in
    omega (arith, listed_length (λ k. (account_at b k).units) (is_buyer b) n, listed_length (λ k. (account_at b k).units) (is_seller b) n)
  where
    go : {k : ℕ} (s : Side) → (account_at b k).side ≡ s → k < b.account_count → one_if (is_long s) + one_if (is_short s) ≤ one_if (ltb 0 (account_at b k).units)
    go Side.Flat e h = omega arith
    go {k} Side.Long e h = rw (lt-ltb 0 (account_at b k).units ((r.accounts.rows k h).long_some e)) (omega arith)
    go {k} Side.Short e h = rw (lt-ltb 0 (account_at b k).units ((r.accounts.rows k h).short_some e)) (omega arith)

-- both sides of a whole pairing are left with nothing
busy_less : {b e : Book} {buyer seller u : ℕ} → Pairable b buyer seller u → Paired b 1 buyer seller u e → Core b → u ≡ (account_at b buyer).units → u ≡ (account_at b seller).units → busy e + 2 ≡ busy b
busy_less {b} {e} {buyer} {seller} {u} p q r x y =
    let f : Account → ℕ = λ a. one_if (ltb 0 a.units) in
    let g = paired_sum p q r f in
    let k₁ : f (account_at b buyer) ≡ 1 = ap one_if (lt-ltb 0 (account_at b buyer).units (omega (arith, p.some))) in
    let k₂ : f (account_at b seller) ≡ 1 = ap one_if (lt-ltb 0 (account_at b seller).units (omega (arith, p.some))) in
    let k₃ : f (units_off (account_at b buyer) u) ≡ 0 = ap one_if (le-ltb 0 ((account_at b buyer).units - u) (omega arith)) in
    let k₄ : f (units_off (account_at b seller) u) ≡ 0 = ap one_if (le-ltb 0 ((account_at b seller).units - u) (omega arith)) in
    omega (arith, tally_sum (λ k. ltb 0 (account_at b k).units) b.account_count 0, tally_sum (λ k. ltb 0 (account_at e k).units) e.account_count 0)

-- ---- the passes

lowest_cases : (Q : Option ℕ → Type 0) (p : ℕ → Bool) (n i : ℕ) → ((l : ℕ) → l < i + n → p l ≡ true → Q (Some l)) → Q None → Q (lowest n i p)
unfolding lowest
lowest_cases Q p zero i h g = g
lowest_cases Q p (suc n) i h g =
    let r = lowest_cases Q p n (i + 1) (λ l a e. h l (omega arith) e) g in
    by_pick Q (p i) (λ e. h i (omega arith) e) (λ e. r)

one_less : (x y : ℕ) → x ≤ y → one_if (ltb 0 x) ≤ one_if (ltb 0 y)
one_less x y h = go (ltb 0 y) refl
  where
    go : (t : Bool) → ltb 0 y ≡ t → one_if (ltb 0 x) ≤ one_if t
    go true e = one_most (ltb 0 x)
    go false e = let z = ltb-false 0 y e in rw (le-ltb 0 x (omega arith)) (omega arith)

-- accounts to whom something is left are no more than are listed
left_few : (n : ℕ) (xs : List Listed) → tally n 0 (λ k. ltb 0 (left_of k xs)) ≤ length xs
unfolding sum_of
left_few n [] = omega (arith, tally_none (λ k. ltb 0 0) n 0 (λ k i j. refl))
left_few n (x ∷ xs) =
    omega (arith, left_few n xs, tally_one x.account n 0, tally_either (λ k. eqb x.account k) (λ k. ltb 0 (left_of k xs)) (λ k. ltb 0 (only x.account x.left k + left_of k xs)) n 0 (λ k i j. go k (eqb x.account k)))
  where
    go : (k : ℕ) (t : Bool) → one_if (ltb 0 (pick t x.left 0 + left_of k xs)) ≤ one_if t + one_if (ltb 0 (left_of k xs))
    go k true = omega (arith, one_most (ltb 0 (x.left + left_of k xs)))
    go k false = omega (arith, one_less (0 + left_of k xs) (left_of k xs) (omega arith))

-- a walk of the first pass from book b: each turn makes one match and drops one member or more, and overseas buyers with units left are still listed
record Room (b : Book) (t : ℕ) (xs ys : List Listed) (z : Book) : Type 0 where
  pub turns : z.match_count + (length xs + length ys) ≤ t
  pub accounts : z.account_count ≡ b.account_count
  pub units : (k : ℕ) → k < b.account_count → is_overseas_buyer b k ≡ true → (account_at z k).units ≤ left_of k xs

room_one : (b : Book) (t : ℕ) (x y : Listed) (xs ys : List Listed) (z : Book) → Core z → Pairable z x.account y.account (min x.left y.left) → Room b t (x ∷ xs) (y ∷ ys) z
    → Room b t (use_up (min x.left y.left) x xs) (use_up (min x.left y.left) y ys) (pair z bonded_only 1 x.account y.account (min x.left y.left))
room_one b t x y xs ys z r p w =
    let i = x.account in
    let j = y.account in
    let u = min x.left y.left in
    let q = pair_core z bonded_only 1 i j u (omega arith) p r in
    let e = pair z bonded_only 1 i j u in
    record {
      turns = omega (arith, w.turns, paired_matches q, use_up_length u x xs, use_up_length u y ys);
      accounts = paired_accounts q ∙ w.accounts;
      units = λ k h o.
          let l = use_up_left u x xs k (omega arith) in
          by_eq k i
          (λ g. let v : (account_at e k).units ≡ (account_at z k).units - u = rw g (ap (λ (a : Account). a.units) (paired_buyer p q r)) in omega (arith, w.units k h o, only_most i u k))
          (λ g. omega (arith, w.units k h o, only_else i u k g, paired_row p q r (λ (a : Account). a.units ≤ (account_at z k).units) k (omega arith) (λ a f. omega arith)));
    }

module _ {b : Book} {t : ℕ} {xs ys : List Listed} {z : Book} (w : Room b t xs ys z) where
  busy_few : busy z + overseas b ≤ length xs + b.account_count
  busy_few =
      let n = b.account_count in
      let one : (k : ℕ) → k < n → one_if (ltb 0 (account_at z k).units) ≤ one_if (ltb 0 (left_of k xs)) + one_if (not (is_overseas_buyer b k)) = λ k h. go k (is_overseas_buyer b k) refl h in
      let all = tally_either (λ k. ltb 0 (left_of k xs)) (λ k. not (is_overseas_buyer b k)) (λ k. ltb 0 (account_at z k).units) n 0 (λ k i j. one k (omega arith)) in
      let two = tally_two (is_overseas_buyer b) (λ k. not (is_overseas_buyer b k)) (λ k. true) n 0 (λ k i j. on (is_overseas_buyer b k)) in
      let same : busy z ≡ tally n 0 (λ k. ltb 0 (account_at z k).units) = ap (λ (m : ℕ). tally m 0 (λ k. ltb 0 (account_at z k).units)) w.accounts in
      omega (arith, left_few n xs, tally_few (λ k. true) n)
    where
      go : (k : ℕ) (o : Bool) → is_overseas_buyer b k ≡ o → k < b.account_count → one_if (ltb 0 (account_at z k).units) ≤ one_if (ltb 0 (left_of k xs)) + one_if (not o)
      go k true e h = omega (arith, one_less (account_at z k).units (left_of k xs) (w.units k h e))
      go k false e h = omega (arith, one_most (ltb 0 (account_at z k).units))

      on : (o : Bool) → one_if o + one_if (not o) ≤ 1
      on true = omega arith
      on false = omega arith

-- what the first pass leaves of book b: Q holds, and its matches and the accounts with units left are few
abbrev pub Firsted : (Book → Type 0) → Book → Book → Type 0
Firsted Q b e = Passed (λ (z : Book). Q z × (z.match_count + busy z ≤ b.match_count + 126)) b.account_count b.match_count (b.match_count + 125) e

-- the first pass, with what is kept of its lists too
module _ (P : List Listed → List Listed → Book → Type 0) (Q : Book → Type 0)
    (keep : (x y : Listed) (xs ys : List Listed) (b : Book) → Core b → Pairable b x.account y.account (min x.left y.left) → P (x ∷ xs) (y ∷ ys) b
    → P (use_up (min x.left y.left) x xs) (use_up (min x.left y.left) y ys) (pair b bonded_only 1 x.account y.account (min x.left y.left)))
    (no_buyers : (ys : List Listed) (b : Book) → Core b → P [] ys b → Q b) (no_sellers : (xs : List Listed) (b : Book) → Core b → P xs [] b → Q b) where
  firsted_none : (b : Book) → Core b → Q b → Firsted Q b b
  firsted_none b r q =
      let k = tally_few (λ k. ltb 0 (account_at b k).units) b.account_count in
      record { core = r; kept = (q, omega (arith, r.accounts.few)); accounts = refl; low_count = omega arith; high_count = omega arith }

  pub first_walk : (b : Book) → b.match_count ≤ 64 → Core b → (b.board ≡ true → Q b) → (b.board ≡ false → P (joined_lots b) (bonded_sellers b) b) → Firsted Q b (first_pass b)
  unfolding first_pass pair_all
  first_walk b m r g h = by_pick (Firsted Q b) b.board
      (λ q. firsted_none b r (g q))
      (λ q. rw (first_pairs b r) (on (bonded_sellers b) refl (h q)))
    where
      xs : List Listed
      xs = joined_lots b

      on : (ys : List Listed) → bonded_sellers b ≡ ys → P xs ys b → Firsted Q b (pair_all bonded_only (walked xs ys) b)
      on [] e p = rw (Joining.no_sellers (length xs + length []) xs) (firsted_none b r (no_sellers xs b r p))
      on (y ∷ ys) e p =
          let t = b.match_count + (length xs + length (y ∷ ys)) in
          let s : length (y ∷ ys) ≡ offering b = ap length (sym e) ∙ sellers_all b in
          let k = lots_most b in
          let f = first_few b in
          let a : b.account_count ≤ 32 = r.accounts.few in
          let w = walk_keeps bonded_only (λ xs ys z. P xs ys z × Room b t xs ys z) (λ z. Q z × (z.match_count + busy z ≤ b.match_count + 126))
          (λ x y xs ys z c o d. (keep x y xs ys z c o d.0, room_one b t x y xs ys z c o d.1))
          (λ ys z c d. (no_buyers ys z c d.0, omega (arith, busy_few d.1, d.1.turns)))
          (λ xs z c d. (no_sellers xs z c d.0, omega (arith, busy_few d.1, d.1.turns)))
          (length xs + length (y ∷ ys)) xs (y ∷ ys) b (omega arith) (omega arith) r (rw e at (first_listing b r))
          (p, record { turns = omega arith; accounts = refl; units = λ k h o. rw (overseas_left b r k h, o) (omega arith) }) in
          record { core = w.core; kept = w.kept; accounts = w.accounts; low_count = w.low_count; high_count = omega (arith, w.high_count) }

-- no account is long any more, or none is short
abbrev pub Over : Book → Type 0
Over e = ((k : ℕ) → k < e.account_count → long_units (account_at e k) ≡ 0) ⊎ ((k : ℕ) → k < e.account_count → short_units (account_at e k) ≡ 0)

none_left : (k : ℕ) → left_of k [] ≡ 0
unfolding sum_of
none_left k = refl

module _ (P : Book → Type 0) (keep : (b : Book) (c : Bool) (x y u : ℕ) → Core b → Pairable b x y u → P b → P (pair b c 1 x y u)) where
  -- twice the matches and the accounts with units: the same all through the second pass
  record Second (n low sum_of : ℕ) (e : Book) : Type 0 where
    pub core : Core e
    pub kept : P e
    pub accounts : e.account_count ≡ n
    pub low_count : low ≤ e.match_count
    pub whole : 2 * e.match_count + busy e ≡ sum_of

  second_one : (n low t : ℕ) → t ≤ 510 → (i : ℕ) (e : Book) → i < n → Second n low t e → Second n low t (second_turn i e)
  unfolding second_turn equal_seller
  second_one n low t m i e h s =
      by_pick (Second n low t) (is_buyer e i)
      (λ q. lowest_cases (λ (f : Option ℕ). Second n low t (pair_whole e i f)) (λ l. is_seller e l && eqb (account_at e l).units (account_at e i).units) e.account_count 0
      (λ l g z.
      let r = s.core in
      let u = (account_at e i).units in
      let j : i < e.account_count = omega (arith, s.accounts) in
      let o = and_left (is_seller e l) _ z in
      let v : (account_at e l).units ≡ u = eqb-true _ _ (and_right (is_seller e l) _ z) in
      let p : Pairable e i l u = pairable e i l u j (omega arith) (buyer_some e r i j q) (rw q (omega arith)) (rw o (omega arith)) (omega (arith, s.whole)) in
      let w = pair_core e any_class 1 i l u (omega arith) p r in
      record {
        core = w.core;
        kept = keep e any_class i l u r p s.kept;
        accounts = paired_accounts w ∙ s.accounts;
        low_count = omega (arith, paired_matches w, s.low_count);
        whole = omega (arith, paired_matches w, s.whole, busy_less p w r refl (sym v));
      })
      s)
      (λ q. s)

  second_keeps : (b : Book) → b.match_count ≤ 239 → Core b → P b → Second b.account_count b.match_count (2 * b.match_count + busy b) (second_pass b)
  unfolding second_pass
  second_keeps b m r h =
      let k = tally_few (λ k. ltb 0 (account_at b k).units) b.account_count in
      let n = b.account_count in
      let t = 2 * b.match_count + busy b in
      iter_keeps (λ i e. Second n b.match_count t e) second_turn n (second_one n b.match_count t (omega (arith, r.accounts.few))) n 0 b (omega arith)
      (record { core = r; kept = h; accounts = refl; low_count = omega arith; whole = refl })

  -- the third pass from book b: whoever has units left is still listed with them
  record StillListed (b : Book) (xs ys : List Listed) (e : Book) : Type 0 where
    pub kept : P e
    pub accounts : e.account_count ≡ b.account_count
    pub long : (k : ℕ) → k < b.account_count → long_units (account_at e k) ≤ left_of k xs
    pub short : (k : ℕ) → k < b.account_count → short_units (account_at e k) ≤ left_of k ys

  listed_one : (b : Book) (x y : Listed) (xs ys : List Listed) (e : Book) → Core e → Pairable e x.account y.account (min x.left y.left) → StillListed b (x ∷ xs) (y ∷ ys) e
      → StillListed b (use_up (min x.left y.left) x xs) (use_up (min x.left y.left) y ys) (pair e any_class 1 x.account y.account (min x.left y.left))
  listed_one b x y xs ys e s p w =
      let u = min x.left y.left in
      let q = pair_core e any_class 1 x.account y.account u (omega arith) p s in
      record {
        kept = keep e any_class x.account y.account u s p w.kept;
        accounts = paired_accounts q ∙ w.accounts;
        long = λ k h. omega (arith, w.long k h, paired_long p q s k, use_up_left u x xs k (omega arith));
        short = λ k h. omega (arith, w.short k h, paired_short p q s k, use_up_left u y ys k (omega arith));
      }

  third_keeps : (b : Book) → b.match_count + (busy b - 1) ≤ 256 → Core b → P b → Passed (λ e. P e × Over e) b.account_count b.match_count (b.match_count + (busy b - 1)) (third_pass b)
  unfolding third_pass buyers sellers
  third_keeps b m r h =
      let xs = buyers b in
      let ys = sellers b in
      let n = b.account_count in
      let k = third_few b r in
      let w = walk_keeps any_class (StillListed b) (λ e. P e × Over e) (listed_one b)
      (λ ys e s g. (g.kept, inl (λ k h. omega (arith, g.long k (omega (arith, g.accounts)), none_left k))))
      (λ xs e s g. (g.kept, inr (λ k h. omega (arith, g.short k (omega (arith, g.accounts)), none_left k))))
      (length xs + length ys) xs ys b (omega arith) (omega arith) r (third_listing b r)
      (record { kept = h; accounts = refl; long = λ k h. omega (arith, listed_left (units_of b) (is_buyer b) k n h); short = λ k h. omega (arith, listed_left (units_of b) (is_seller b) k n h) }) in
      record { core = w.core; kept = w.kept; accounts = w.accounts; low_count = w.low_count; high_count = omega (arith, w.high_count) }

  -- the second and the third pass, to so many matches at most
  pub old_keep : (most : ℕ) (b : Book) → most ≤ 239 → b.match_count ≤ most → b.match_count + busy b ≤ most + 1 → Core b → P b
      → Passed (λ e. P e × Over e) b.account_count b.match_count most (old_passes b)
  unfolding old_passes
  old_keep most b h g f r q =
      let s = second_keeps b (omega arith) r q in
      let e = second_pass b in
      let w : 2 * e.match_count + busy e ≡ 2 * b.match_count + busy b = s.whole in
      let lo : b.match_count ≤ e.match_count = s.low_count in
      let t = third_keeps e (omega arith) s.core s.kept in
      record { core = t.core; kept = t.kept; accounts = t.accounts ∙ s.accounts; low_count = omega (arith, t.low_count); high_count = omega (arith, t.high_count) }

-- ---- the offers lapse

-- an account table in which the offers of the first n are ended
pub record Lapsed (n : ℕ) (l m : List Account) : Type 0 where
  pub size : length m ≡ length l
  pub rows : (k : ℕ) → get_or m k blank_account ≡ with_offer (get_or l k blank_account) (get_or m k blank_account).offer
  pub ended : (k : ℕ) → k < n → (get_or m k blank_account).offer ≡ None

lapse_one : (l : List Account) (i : ℕ) (m : List Account) → i < length l → Lapsed i l m → Lapsed (i + 1) l (lapse_turn i m)
unfolding lapse_turn
lapse_one l i m h s =
    let a = with_offer (get_or m i blank_account) None in
    record {
      size = simp length-set s.size;
      rows = λ k. at_set (λ (x : Account). x ≡ with_offer (get_or l k blank_account) x.offer) m i k a blank_account (λ q. rw q (ap (λ (x : Account). with_offer x None) (s.rows i))) (s.rows k);
      ended = rows_add (λ (x : Account). x.offer ≡ None) m i a blank_account (omega (arith, s.size)) s.ended refl;
    }

-- the offers lapse, and the accounts are else as they were; all else is so by computation
pub lapsed : (b : Book) → b.account_count ≤ length b.accounts → Lapsed b.account_count b.accounts (lapse_offers b).accounts
unfolding lapse_offers
lapsed b h =
    let n = b.account_count in
    iter_keeps (λ i m. Lapsed i b.accounts m) lapse_turn n (λ i m g s. lapse_one b.accounts i m (omega arith) s) n 0 b.accounts (omega arith)
    (record { size = refl; rows = λ k. refl; ended = λ k g. absurd (omega arith) })

pub lapse_core : (b : Book) → Core b → Core (lapse_offers b)
unfolding lapse_offers
lapse_core b r =
    let t = r.accounts in
    let l = lapsed b (omega (arith, t.size, t.few)) in
    let a : AccountTable b.day b.account_count (lapse_offers b).accounts = record { size = l.size ∙ t.size; few = t.few; rows = λ k h. let s = t.rows k h in rw (l.rows k) (search) } in
    search
