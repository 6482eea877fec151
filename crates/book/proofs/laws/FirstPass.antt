-- The first pass of an accepted Close, in the words of demand 3: it gave out the lesser of what was open and what was offered, and filled older
-- lots first. What the walk keeps, from its lists' start to the end of one; then what the later pairings leave of it. Assumes nothing.
use Rattle.std.specs.Prelude.{◌≡◌, ◌⊎◌, Bool, ◌&&◌, List, [], ◌∷◌, ltb}
use Rattle.std.proofs.Math.Path.{refl, sym, ap}
use Rattle.std.proofs.Common.{◌∙◌, inl, inr, ltb-false}
use Rattle.std.proofs.Math.Bool.{true, false}
use Prim.Native.Nat.{ℕ, ◌+◌, ◌-◌, ◌≤◌, ◌<◌, min}
use native.Mathlib.Omega.{arith}
use Rattle.coal.specs.Choice.{pick}
use Rattle.book.specs.Types.{ReceiptState, Lot, Book, Call, Outcome, Listed}
use Rattle.book.specs.Counting.{All, those, sum}
use Rattle.book.specs.Rows.{lots_of, is_free, is_short, long_units, short_units, bonded_only}
use Rattle.book.specs.Tables.{account_at, receipt_at, with_open, free_receipts}
use Rattle.book.specs.Answers.{is_accepted}
use Rattle.book.specs.Pairing.{pair}
use Rattle.book.specs.Closing.{use_up, is_buyer, is_seller, is_overseas_buyer, overseas_lots, bonded_offer, bonded_sellers, first_pass, later_passes, all_passes, lapse_offers}
use Rattle.book.specs.Calls.{step}
use Rattle.book.specs.Ages.{lots_total, older_lot}
use Rattle.book.specs.Lists.{accepts}
use Rattle.book.specs.Demand3.{overseas_units_open, bonded_units_offered, frozen_for_buyer, gave, gave_out, lot_at, counts_for, lot_gave, OverseasBuyer, FirstPass}
use Rattle.book.proofs.laws.Counting.{by_pick, and_left, and_right, sum_same, sum_none, sum_change, tally_same, tally_none, sum_plus, only, only_here, only_else, impossible}
use Rattle.book.proofs.laws.Answered.{Answered, answered}
use Rattle.book.proofs.laws.Sound.{Core, SoundTables}
use Rattle.book.proofs.laws.Pairing.{Pairable, pairable_long, pairable_short, Paired, pair_core, paired_long, paired_short}
use Rattle.book.proofs.laws.Walking.{sum_of, left_of, use_up_left, use_up_all, front_left}
use Rattle.book.proofs.laws.Listing.{those_all, lots_all, lots_counted, lots_rising}
use Rattle.book.proofs.laws.Joining.{joins_all}
use Rattle.book.proofs.laws.Sharing.{share, share_none, share_turn, shares_joined, older, older_first, rising_lots, got_some, got_nothing, got_all}
use Rattle.book.proofs.laws.Closing.{joined_lots, overseas_left, bonded_left, Firsted, first_walk}
use Rattle.book.proofs.laws.Passes.{later_keep}
use Rattle.book.proofs.laws.Given.{Since, gave_none, since_pair, free_pair, gave_other, gave_nothing, first_gave, first_free}

-- what account k offers of bonded receipts: the lesser of its short units and its free ones
abbrev offering : Book → ℕ → ℕ
offering z k = min (short_units (account_at z k)) (free_receipts z bonded_only k)

nothing_left : (k : ℕ) → left_of k [] ≡ 0
unfolding sum_of
nothing_left k = refl

-- older lots filled, in a book that gave each overseas buyer as much
abbrev Filled : Book → Book → Type 0
Filled b e = (k l i j : ℕ) → OverseasBuyer b k → OverseasBuyer b l → 0 < lot_gave b e k i → (lot_at b l j).day < (lot_at b k i).day → lot_gave b e l j ≡ (lot_at b l j).units

refilled : (b e z : Book) → ((k : ℕ) → OverseasBuyer b k → gave b e k ≡ gave b z k) → Filled b z → Filled b e
refilled b e z s f k l i j o p g h =
    let same : (k i : ℕ) → OverseasBuyer b k → lot_gave b e k i ≡ lot_gave b z k i = λ k i o. ap (λ (u : ℕ). counts_for u (lots_of (account_at b k)) i) (s k o) in
    same l j p ∙ f k l i j o p (omega (arith, same k i o)) h

module _ (b : Book) where
  abbrev n : ℕ
  n = b.account_count

  -- the lots that the first pass lists
  abbrev lots : List Listed
  lots = overseas_lots b

  -- ---- what was given out, added up

  out_none : (e : Book) → ((k : ℕ) → gave b e k ≡ 0) → gave_out b e ≡ 0
  unfolding gave_out
  out_none e h = sum_none (λ k. pick (is_overseas_buyer b k) (gave b e k) 0) n 0 (λ k x y. by_pick (λ (v : ℕ). v ≡ 0) (is_overseas_buyer b k) (λ o. h k) (λ o. refl))

  out_same : (z e : Book) → ((k : ℕ) → k < n → (account_at b k).overseas ≡ true → gave b e k ≡ gave b z k) → gave_out b e ≡ gave_out b z
  unfolding gave_out
  out_same z e h = sum_same _ _ n 0 (λ k x y. go k (is_overseas_buyer b k) refl (omega arith))
    where
      go : (k : ℕ) (t : Bool) → is_overseas_buyer b k ≡ t → k < n → pick t (gave b e k) 0 ≡ pick t (gave b z k) 0
      go k true o g = h k g (and_left (account_at b k).overseas _ o)
      go k false o g = refl

  more_out : (z e : Book) (i u : ℕ) → i < n → is_overseas_buyer b i ≡ true → ((k : ℕ) → gave b e k ≡ gave b z k + only i u k) → gave_out b e ≡ gave_out b z + u
  unfolding gave_out
  more_out z e i u h o g =
      let f : Book → ℕ → ℕ = λ y k. pick (is_overseas_buyer b k) (gave b y k) 0 in
      let c = sum_change (f e) (f z) n 0 i (omega arith) (omega arith) (λ k d. ap (λ (x : ℕ). pick (is_overseas_buyer b k) x 0) (omega (arith, g k, only_else i u k d))) in
      let x : f e i ≡ gave b e i = rw o in
      let y : f z i ≡ gave b z i = rw o in
      omega (arith, g i, only_here i u)

  -- ---- the walk

  -- what the first pass gave, with z the book so far
  record Giving (z : Book) : Type 0 where
    pub since : Since b z
    pub filled : (k : ℕ) → k < n → is_overseas_buyer b k ≡ true → gave b z k + long_units (account_at z k) ≡ (account_at b k).units
    pub out : gave_out b z + sum n 0 (offering z) ≡ bonded_units_offered b

  -- what every turn of its walk keeps
  record Walking (xs ys : List Listed) (z : Book) : Type 0 where
    pub giving : Giving z
    pub buyers : (k : ℕ) → k < n → (account_at b k).overseas ≡ true → long_units (account_at z k) ≤ left_of k xs
    pub sellers : (k : ℕ) → k < n → offering z k ≡ left_of k ys
    -- so many units were given out, from the front of the lots, and xs is what is left of them
    pub given : ℕ
    pub shared : (k g : ℕ) → share k (given + g) lots ≡ gave b z k + share k g xs
    pub members : All (λ (x : Listed). is_overseas_buyer b x.account ≡ true) xs

  walking_one : (x y : Listed) (xs ys : List Listed) (z : Book) → Core z → Pairable z x.account y.account (min x.left y.left) → Walking (x ∷ xs) (y ∷ ys) z
      → Walking (use_up (min x.left y.left) x xs) (use_up (min x.left y.left) y ys) (pair z bonded_only 1 x.account y.account (min x.left y.left))
  walking_one x y xs ys z r p w =
      let i = x.account in
      let j = y.account in
      let u = min x.left y.left in
      let e = pair z bonded_only 1 i j u in
      let v = w.giving in
      let s = v.since in
      let q : Paired z 1 i j u e = pair_core z bonded_only 1 i j u (omega arith) p r in
      let enough : u ≤ free_receipts z bonded_only j = omega (arith, w.sellers j (omega (arith, p.seller_there, s.accounts)), front_left y ys) in
      let gives : (k : ℕ) → gave b e k ≡ gave b z k + only i u k = λ k. first_gave b z i j u s r p enough k in
      let long : (k : ℕ) → long_units (account_at e k) ≡ long_units (account_at z k) - only i u k = λ k. paired_long p q r k in
      let offers : (k : ℕ) → offering e k + only j u k ≡ offering z k = λ k. omega (arith, paired_short p q r k, first_free b z i j u s r p enough k, pairable_short p k) in
      let more : gave_out b e ≡ gave_out b z + u = more_out z e i u (omega (arith, p.buyer_there, s.accounts)) w.members.0 gives in
      let less = sum_change (offering e) (offering z) n 0 j (omega arith) (omega (arith, p.seller_there, s.accounts)) (λ k d. omega (arith, offers k, only_else j u k d)) in
      record {
        giving = record {
          since = since_pair b z bonded_only i j u s r p;
          filled = λ k h e. omega (arith, v.filled k h e, gives k, long k, pairable_long p k);
          out = omega (arith, v.out, offers j, only_here j u);
        };
        buyers = λ k h e. omega (arith, w.buyers k h e, long k, use_up_left u x xs k (omega arith));
        sellers = λ k h. omega (arith, w.sellers k h, offers k, use_up_left u y ys k (omega arith));
        given = w.given + u;
        shared = λ k g.
            let a : w.given + u + g ≡ w.given + (u + g) = omega arith in
            rw a (omega (arith, w.shared k (u + g), gives k, share_turn k u g x xs (omega arith)));
        members = use_up_all u x xs (λ (x : Listed). is_overseas_buyer b x.account ≡ true) (λ g. w.members.0) w.members.1;
      }

  -- ---- the lists' start

  all_offered : b.board ≡ false → sum n 0 (offering b) ≡ bonded_units_offered b
  unfolding bonded_units_offered
  all_offered nb = by_pick (λ (v : ℕ). sum n 0 (offering b) ≡ v) b.board (λ e. cc) (λ e. sum_same _ _ n 0 (λ k x y. go k (is_seller b k)))
    where
      go : (k : ℕ) (t : Bool) → min (pick t (account_at b k).units 0) (free_receipts b bonded_only k) ≡ pick t (bonded_offer b k) 0
      go k true = refl
      go k false = omega arith

  start_members : All (λ (x : Listed). is_overseas_buyer b x.account ≡ true) (joined_lots b)
  unfolding overseas_lots
  start_members =
      let p = is_overseas_buyer b in
      joins_all (λ (x : Listed). p x.account ≡ true) (λ x y h g. h) lots
      (lots_all (λ (x : Listed). p x.account ≡ true) b (those n 0 p) (those_all (λ k. (x : Lot) → 0 < x.units → p k ≡ true) p n 0 (λ k i j e x h. e)))

  walking_start : b.board ≡ false → Core b → Walking (joined_lots b) (bonded_sellers b) b
  walking_start nb r = record {
    giving = record {
      since = record { accounts = refl; receipts = refl; overseas = λ k. refl; bonded = λ k h. refl; free = λ k h e. e };
      filled = λ k h e. rw (gave_none b k, and_right (account_at b k).overseas (is_buyer b k) e) (omega arith);
      out = omega (arith, out_none b (gave_none b), all_offered nb);
    };
    buyers = λ k h e. rw (overseas_left b r k h, e) (omega arith);
    sellers = λ k h. go k (is_short (account_at b k).side) (ltb 0 (bonded_offer b k)) refl ∙ sym (bonded_left b k h);
    given = 0;
    shared = λ k g. let a : 0 + g ≡ g = omega arith in rw (a, gave_none b k, shares_joined k g lots) (omega arith);
    members = start_members;
  }
    where
      go : (k : ℕ) (s t : Bool) → ltb 0 (bonded_offer b k) ≡ t → min (pick s (account_at b k).units 0) (free_receipts b bonded_only k) ≡ pick (s && t) (bonded_offer b k) 0
      go k true true e = refl
      go k true false e = omega (arith, ltb-false 0 (bonded_offer b k) e)
      go k false t e = omega arith

  -- ---- the end of one list

  -- no overseas account is long any more, or no account offers a bonded receipt any more
  abbrev Over : Book → Type 0
  Over z = ((k : ℕ) → k < n → (account_at b k).overseas ≡ true → long_units (account_at z k) ≡ 0) ⊎ ((k : ℕ) → k < n → offering z k ≡ 0)

  -- each account got its share of the units that were given out from the front of the lots
  record Walked (z : Book) : Type 0 where
    pub giving : Giving z
    pub over : Over z
    pub given : ℕ
    pub shared : (k : ℕ) → gave b z k ≡ share k given lots

  walked : {xs ys : List Listed} {z : Book} → Walking xs ys z → Over z → Walked z
  walked {xs} {ys} {z} w o = record { giving = w.giving; over = o; given = w.given; shared = λ k. let a : w.given + 0 ≡ w.given = omega arith in omega (arith, rw a at (w.shared k 0), share_none k xs) }

  first_done : b.board ≡ false → b.match_count ≤ 64 → Core b → Firsted Walked b (first_pass b)
  first_done nb m r =
      first_walk Walking Walked walking_one
      (λ ys z c w. walked w (inl (λ k h e. omega (arith, w.buyers k h e, nothing_left k))))
      (λ xs z c w. walked w (inr (λ k h. w.sellers k h ∙ nothing_left k)))
      b m r (λ q. impossible (cc)) (λ q. walking_start q r)

  -- the units of overseas buyers that are open yet
  abbrev still_open : Book → ℕ → ℕ
  still_open z k = pick (is_overseas_buyer b k) (long_units (account_at z k)) 0

  open_sum : {z : Book} → Giving z → overseas_units_open b ≡ gave_out b z + sum n 0 (still_open z)
  unfolding gave_out overseas_units_open
  open_sum {z} w = sum_plus (λ k. pick (is_overseas_buyer b k) (account_at b k).units 0) (λ k. pick (is_overseas_buyer b k) (gave b z k) 0) (still_open z) n 0 (λ k i j. go k (is_overseas_buyer b k) refl (omega arith))
    where
      go : (k : ℕ) (t : Bool) → is_overseas_buyer b k ≡ t → k < n → pick t (account_at b k).units 0 ≡ pick t (gave b z k) 0 + pick t (long_units (account_at z k)) 0
      go k true e h = sym (w.filled k h e)
      go k false e h = refl

  -- given out is exactly the lesser of the overseas units open and the bonded units offered
  walked_lesser : {z : Book} → Walked z → gave_out b z ≡ min (overseas_units_open b) (bonded_units_offered b)
  walked_lesser {z} w = go w.over
    where
      go : Over z → gave_out b z ≡ min (overseas_units_open b) (bonded_units_offered b)
      go (inl o) = omega (arith, open_sum w.giving, w.giving.out, sum_none (still_open z) n 0 (λ k x y. by_pick (λ (v : ℕ). v ≡ 0) (is_overseas_buyer b k) (λ e. o k (omega arith) (and_left (account_at b k).overseas _ e)) (λ e. refl)))
      go (inr o) = omega (arith, open_sum w.giving, w.giving.out, sum_none (offering z) n 0 (λ k x y. o k (omega arith)))

  -- ---- the later passes: "freeze no bonded one for an overseas buyer, only ordinary ones"

  record Later (f z : Book) : Type 0 where
    pub since : Since b z
    pub same : (k : ℕ) → k < n → (account_at b k).overseas ≡ true → gave b z k ≡ gave b f k
    pub over : Over z

  later_one : (f z : Book) (c : Bool) (i j u : ℕ) → Core z → Pairable z i j u → Later f z → Later f (pair z c 1 i j u)
  later_one f z c i j u r p w = record {
    since = since_pair b z c i j u s r p;
    same = λ k h o. same w.over k h o ∙ w.same k h o;
    over = over w.over;
  }
    where
      s : Since b z
      s = w.since

      q : Paired z 1 i j u (pair z c 1 i j u)
      q = pair_core z c 1 i j u (omega arith) p r

      same : Over z → (k : ℕ) → k < n → (account_at b k).overseas ≡ true → gave b (pair z c 1 i j u) k ≡ gave b z k
      same (inl o) k h e = gave_other b z c i j u s r p k (λ y. omega (arith, o k h e, pairable_long p k, ap (only i u) y, only_here i u, p.some))
      same (inr o) k h e = gave_nothing b z c i j u s r p (omega (arith, o j (omega (arith, p.seller_there, s.accounts)), pairable_short p j, only_here j u, p.some)) k

      over : Over z → Over (pair z c 1 i j u)
      over (inl o) = inl (λ k h e. omega (arith, paired_long p q r k, o k h e))
      over (inr o) = inr (λ k h. omega (arith, paired_short p q r k, free_pair b z c i j u s r p bonded_only k, o k h))

  -- ---- the whole of Close

  -- the units of lots of an earlier day than d, in the list and by account
  older_listed : (d k : ℕ) → k < n → is_overseas_buyer b k ≡ true → sum_of (older d) k lots ≡ lots_total (older_lot d) (lots_of (account_at b k))
  unfolding overseas_lots
  older_listed d k h o = lots_counted (older d) (λ x e. by_pick (λ (u : ℕ). u ≡ 0) (ltb x.day d) (λ t. e) (λ t. refl)) k b (is_overseas_buyer b) n h ∙ rw o

  -- a lot that got a unit, and one of an earlier day
  lots_filled : Core b → {z : Book} → Walked z → Filled b z
  unfolding overseas_lots
  lots_filled r {z} w k l i j o p h e =
      let d = (lot_at b k i).day in
      let more = got_some (gave b z k) (lots_of (account_at b k)) i (rising_lots (r.accounts.rows k o.there)) h in
      let all = older_first k l d w.given lots (lots_rising b (those n 0 (is_overseas_buyer b))) (omega (arith, older_listed d k o.there o.overseas_and_long, w.shared k)) in
      got_all (gave b z l) d (lots_of (account_at b l)) j (rising_lots (r.accounts.rows l p.there)) (omega (arith, older_listed d l p.there p.overseas_and_long, w.shared l)) e

  passes_hold : (budget : ℕ) → b.board ≡ false → b.match_count ≤ 64 → Core b → FirstPass b (all_passes b budget)
  unfolding all_passes
  passes_hold budget nb m r =
      let f = first_pass b in
      let d = first_done nb m r in
      let w = d.kept.0 in
      let l = (later_keep (Later f) (later_one f) b.match_count f budget m d.high_count d.kept.1 d.core (record { since = w.giving.since; same = λ k h o. refl; over = w.over })).kept.0 in
      let same : (k : ℕ) → OverseasBuyer b k → gave b (all_passes b budget) k ≡ gave b f k = λ k o. l.same k o.there (and_left (account_at b k).overseas _ o.overseas_and_long) in
      record {
        lesser = out_same f (later_passes f budget) l.same ∙ walked_lesser w;
        older_filled = refilled b (all_passes b budget) f same (lots_filled r w);
      }

-- in a board book there is nothing to give
no_receipts : (b e : Book) (k : ℕ) → b.receipt_count ≡ 0 → gave b e k ≡ 0
unfolding gave
no_receipts b e k h = tally_none _ b.receipt_count 0 (λ i x y. absurd (omega arith))

board_none : (b : Book) → b.board ≡ true → bonded_units_offered b ≡ 0
unfolding bonded_units_offered
board_none b q = by_pick (λ (v : ℕ). v ≡ 0) b.board (λ e. refl) (λ e. cc)

board_holds : (b e : Book) → b.board ≡ true → Core b → FirstPass b e
board_holds b e q r =
    let none : (k : ℕ) → gave b e k ≡ 0 = λ k. no_receipts b e k (r.receipts.none q) in
    record { lesser = omega (arith, out_none b e none, board_none b q); older_filled = λ k l i j o p g h. absurd (omega (arith, ap (λ (u : ℕ). counts_for u (lots_of (account_at b k)) i) (none k), got_nothing (lots_of (account_at b k)) i)) }

-- the demand reads the receipts and the matches
lapse_gave : (b z : Book) (k : ℕ) → gave b (with_open (lapse_offers z) false) k ≡ gave b z k
unfolding gave lapse_offers
lapse_gave b z k = tally_same _ _ b.receipt_count 0 (λ i x y. ap (λ (t : Bool). (receipt_at b i).bonded && is_free (receipt_at b i).state && t) (go (receipt_at z i).state))
  where
    go : (s : ReceiptState) → frozen_for_buyer (with_open (lapse_offers z) false) k s ≡ frozen_for_buyer z k s
    go ReceiptState.Free = refl
    go (ReceiptState.Frozen j) = refl
    go ReceiptState.Struck = refl

lapse_holds : (b z : Book) → FirstPass b z → FirstPass b (with_open (lapse_offers z) false)
lapse_holds b z f = record {
  lesser = out_same b z (with_open (lapse_offers z) false) (λ k h o. lapse_gave b z k) ∙ f.lesser;
  older_filled = refilled b (with_open (lapse_offers z) false) z (λ k o. lapse_gave b z k) f.older_filled;
}

closed_holds : {b : Book} {budget : ℕ} {o : Outcome} → Answered b (Call.Close budget) o → SoundTables b → is_accepted o.answer ≡ true → FirstPass b o.book
closed_holds (Answered.refused n p) t h = impossible (cc)
closed_holds {b} {budget} (Answered.closes g) t h = lapse_holds b (all_passes b budget) (go b.board refl)
  where
    go : (k : Bool) → b.board ≡ k → FirstPass b (all_passes b budget)
    go true q = board_holds b (all_passes b budget) q t.core
    go false q = passes_hold b budget q (t.matches_open g.is_open) t.core

-- the first pass of an accepted Close gave out the lesser of the two, and filled older lots first
pub first_pass_holds : (b : Book) (budget : ℕ) → SoundTables b → accepts b (Call.Close budget) ≡ true → FirstPass b (step b (Call.Close budget)).book
first_pass_holds b budget = closed_holds (answered b (Call.Close budget))
