-- "neighbouring units of one pair still make one match": the pairs of a walk over lots, joined, are those of the walk over a list in which
-- neighbouring lots of one account are one. By induction on the turns. Assumes nothing.
use Rattle.std.specs.Prelude.{◌≡◌, Bool, true, false, ◌&&◌, ltb, eqb, length}
use Rattle.std.proofs.Math.Path.{refl}
use Rattle.std.proofs.Common.{sym, ap, ◌∙◌, zero-add}
use mathlib.Core.List.{List, [], ◌∷◌}
use Prim.Native.Nat.{ℕ, zero, suc, ◌+◌, ◌-◌, ◌≤◌, ◌<◌, min}
use native.Mathlib.Omega.{arith}
use borrow.Author.Tests.{ltb-true, ltb-false, eqb-true, eqb-false, eq-eqb, ne_eqb}
use Rattle.coal.specs.Choice.{pick}
use Rattle.book.specs.Types.{Listed, Pair}
use Rattle.book.specs.Counting.{All}
use Rattle.book.specs.Joining.{join_lot, join_lots}
use Rattle.book.specs.Closing.{use_up, walk, walked, join_pair, joined}
use Rattle.book.proofs.laws.Counting.{by_pick, only, only_plus}
use Rattle.book.proofs.laws.Walking.{sum_of, left_of, use_up_all, use_up_length}
use Rattle.book.proofs.laws.Listing.{Climbing}

-- ---- neighbouring lots of one account

-- what holds of each lot, and of two of one account as one, holds of them joined
module _ (P : Listed → Type 0) (both : (x y : Listed) → P x → P y → P (record { account = x.account; left = x.left + y.left; day = y.day })) where
  join_all : (x : Listed) (l : List Listed) → P x → All P l → All P (join_lot x l)
  unfolding join_lot
  join_all x [] h g = (h, tt)
  join_all x (y ∷ l) h g = by_pick (All P) (eqb x.account y.account) (λ e. (both x y h g.0, g.1)) (λ e. (h, g))

  pub joins_all : (l : List Listed) → All P l → All P (join_lots l)
  unfolding join_lots
  joins_all [] h = tt
  joins_all (x ∷ l) h = join_all x (join_lots l) h.0 (joins_all l h.1)

-- something is left to it
abbrev pub SomeLeft : Listed → Type 0
SomeLeft x = 0 < x.left

joins_some : (l : List Listed) → All SomeLeft l → All SomeLeft (join_lots l)
joins_some l h = joins_all SomeLeft (λ x y p q. omega arith) l h

-- what is left to an account
join_left : (k : ℕ) (x : Listed) (l : List Listed) → left_of k (join_lot x l) ≡ left_of k (x ∷ l)
unfolding sum_of join_lot
join_left k x [] = refl
join_left k x (y ∷ l) = by_pick (λ (m : List Listed). left_of k m ≡ only x.account x.left k + (only y.account y.left k + left_of k l)) (eqb x.account y.account)
    (λ e. rw (← eqb-true x.account y.account e) (omega (arith, only_plus x.account x.left y.left k)))
    (λ e. refl)

pub joins_left : (k : ℕ) (l : List Listed) → left_of k (join_lots l) ≡ left_of k l
unfolding sum_of join_lots
joins_left k [] = refl
joins_left k (x ∷ l) = join_left k x (join_lots l) ∙ ap (λ (u : ℕ). only x.account x.left k + u) (joins_left k l)

-- ---- the walk

abbrev of_two : Listed → Listed → ℕ → Pair
of_two x y u = record { buyer = x.account; seller = y.account; units = u }

abbrev less : ℕ → Listed → Listed
less u x = record { account = x.account; left = x.left - u; day = x.day }

-- more turns than members make no difference
walk_more : (n : ℕ) (xs ys : List Listed) → length xs + length ys ≤ n → walk (suc n) xs ys ≡ walk n xs ys
unfolding walk
walk_more zero [] ys h = refl
walk_more zero (x ∷ xs) ys h = absurd (omega arith)
walk_more (suc n) [] ys h = refl
walk_more (suc n) (x ∷ xs) [] h = refl
walk_more (suc n) (x ∷ xs) (y ∷ ys) h =
    let u = min x.left y.left in
    ap (λ (l : List Pair). of_two x y u ∷ l) (walk_more n (use_up u x xs) (use_up u y ys) (omega (arith, use_up_length u x xs, use_up_length u y ys)))

no_buyers : (n : ℕ) (ys : List Listed) → walk n [] ys ≡ []
unfolding walk
no_buyers zero ys = refl
no_buyers (suc n) ys = refl

pub no_sellers : (n : ℕ) (xs : List Listed) → walk n xs [] ≡ []
unfolding walk
no_sellers zero xs = refl
no_sellers (suc n) [] = refl
no_sellers (suc n) (x ∷ xs) = refl

module _ (n : ℕ) (x y : Listed) (xs ys : List Listed) where
  -- a turn that uses up the buyer's front and not the seller's, and one that uses up the seller's
  buyer_used : x.left < y.left → walk (suc n) (x ∷ xs) (y ∷ ys) ≡ of_two x y x.left ∷ walk n xs (less x.left y ∷ ys)
  unfolding walk
  buyer_used h =
      let m : min x.left y.left ≡ x.left = omega arith in
      rw (m, eq-eqb (x.left - x.left) 0 (omega arith), ne_eqb (y.left - x.left) 0 (λ e. absurd (omega arith))) refl

  seller_used : y.left ≤ x.left → walk (suc n) (x ∷ xs) (y ∷ ys) ≡ of_two x y y.left ∷ walk n (use_up y.left x xs) ys
  unfolding walk
  seller_used h =
      let m : min x.left y.left ≡ y.left = omega arith in
      rw (m, eq-eqb (y.left - y.left) 0 (omega arith)) refl

-- the next pair is of another seller
join_apart : (n : ℕ) (p : Pair) (xs ys : List Listed) → All (λ (y : Listed). p.seller < y.account) ys → join_pair p (walk n xs ys) ≡ p ∷ walk n xs ys
unfolding join_pair walk
join_apart zero p xs ys h = refl
join_apart (suc n) p [] ys h = refl
join_apart (suc n) p (x ∷ xs) [] h = refl
join_apart (suc n) p (x ∷ xs) (y ∷ ys) h = rw (ne_eqb p.seller y.account (λ e. absurd (omega (arith, h.0))), go (eqb p.buyer x.account)) refl
  where
    go : (t : Bool) → t && false ≡ false
    go true = refl
    go false = refl

-- a front of the same account with as much left, whatever its account and the number are called
same_front : (d : ℕ) (l : List Listed) {a c u v : ℕ} → a ≡ c → u ≡ v → ◌≡◌ {A = List Listed} (record { account = a; left = u; day = d } ∷ l) (record { account = c; left = v; day = d } ∷ l)
same_front d l e f = rw (e, f) refl

-- the seller's front y is used up, with x the buyer's and lots xs behind it
module _ (n : ℕ) (x y : Listed) (xs : List Listed) (h : y.left ≤ x.left) where
  abbrev v : ℕ
  v = y.left

  -- what is left of x and the lots behind it, which come to l
  rest_is : (l r s : List Listed) → join_lots xs ≡ l → join_lot (less v x) l ≡ r → (x.left - v ≡ 0 → l ≡ s) → (eqb (x.left - v) 0 ≡ false → r ≡ s) → join_lots (use_up v x xs) ≡ s
  unfolding join_lots
  rest_is l r s q e f g = by_pick (λ (m : List Listed). join_lots m ≡ s) (eqb (x.left - v) 0) (λ o. q ∙ f (eqb-true _ _ o)) (λ o. rw q (e ∙ g o))

  used_is : (l : List Listed) → join_lots xs ≡ l → join_lot (less v x) l ≡ less v x ∷ l → join_lots (use_up v x xs) ≡ use_up v x l
  used_is l q e = by_pick (λ (s : List Listed). join_lots (use_up v x xs) ≡ s) (eqb (x.left - v) 0)
      (λ o. rest_is l (less v x ∷ l) l q e (λ z. refl) (λ z. cc))
      (λ o. rest_is l (less v x ∷ l) (less v x ∷ l) q e (λ z. absurd (eqb-false _ _ o z)) (λ z. refl))

  seller_turn : (j ys : List Listed) → join_lots xs ≡ j → All SomeLeft j → of_two x y v ∷ walk n (join_lots (use_up v x xs)) ys ≡ walk (suc n) (join_lot x j) (y ∷ ys)
  unfolding join_lot
  seller_turn [] ys q g = rw (seller_used n x y [] ys h, used_is [] q refl) refl
  seller_turn (z ∷ j) ys q g = go (eqb x.account z.account) refl
    where
      joint : Listed
      joint = record { account = x.account; left = x.left + z.left; day = z.day }

      go : (t : Bool) → eqb x.account z.account ≡ t → of_two x y v ∷ walk n (join_lots (use_up v x xs)) ys ≡ walk (suc n) (pick t (joint ∷ j) (x ∷ z ∷ j)) (y ∷ ys)
      go true e =
          let some : 0 < z.left = g.0 in
          let left : eqb (x.left + z.left - v) 0 ≡ false = ne_eqb (x.left + z.left - v) 0 (λ o. absurd (omega arith)) in
          let one : join_lot (less v x) (z ∷ j) ≡ less v joint ∷ j = rw e (same_front z.day j refl (omega arith)) in
          let same : join_lots (use_up v x xs) ≡ less v joint ∷ j = rest_is (z ∷ j) (less v joint ∷ j) (less v joint ∷ j) q one (λ o. same_front z.day j (sym (eqb-true _ _ e)) (omega arith)) (λ o. refl) in
          rw (seller_used n joint y j ys (omega arith), left, same) refl
      go false e = rw (seller_used n x y (z ∷ j) ys h, used_is (z ∷ j) q (rw e refl)) refl

-- there is no next pair
join_none : (n : ℕ) (p : Pair) (ys : List Listed) → join_pair p (walk n [] ys) ≡ p ∷ walk n [] ys
unfolding join_pair
join_none n p ys = rw (no_buyers n ys) refl

-- the next pair is of another buyer
join_other : (n : ℕ) (p : Pair) (z : Listed) (xs ys : List Listed) → eqb p.buyer z.account ≡ false → join_pair p (walk n (z ∷ xs) ys) ≡ p ∷ walk n (z ∷ xs) ys
unfolding join_pair walk
join_other zero p z xs ys e = refl
join_other (suc n) p z xs [] e = refl
join_other (suc n) p z xs (y ∷ ys) e = rw e refl

-- the next pair is of the same two
join_same : (p : Pair) (z y : Listed) (u : ℕ) (ps : List Pair) → eqb p.buyer z.account ≡ true → p.seller ≡ y.account → join_pair p (of_two z y u ∷ ps) ≡ record { buyer = p.buyer; seller = p.seller; units = p.units + u } ∷ ps
unfolding join_pair
join_same p z y u ps e f = rw (e, eq-eqb p.seller y.account f) refl

-- the buyer's front is used up, and not the seller's
buyer_turn : (n : ℕ) (x y : Listed) (j ys : List Listed) → length j + length (y ∷ ys) ≤ n → x.left < y.left → join_pair (of_two x y x.left) (walk n j (less x.left y ∷ ys)) ≡ walk (suc n) (join_lot x j) (y ∷ ys)
unfolding join_lot
buyer_turn n x y [] ys f h = rw (buyer_used n x y [] ys h) (join_none n (of_two x y x.left) (less x.left y ∷ ys))
buyer_turn zero x y (z ∷ j) ys f h = absurd (omega arith)
buyer_turn (suc n) x y (z ∷ j) ys f h = go (eqb x.account z.account) refl
  where
    p : Pair
    p = of_two x y x.left

    y' : Listed
    y' = less x.left y

    joint : Listed
    joint = record { account = x.account; left = x.left + z.left; day = z.day }

    on : (t : Bool) → ltb z.left (y.left - x.left) ≡ t → eqb x.account z.account ≡ true → join_pair p (walk (suc n) (z ∷ j) (y' ∷ ys)) ≡ walk (suc (suc n)) (joint ∷ j) (y ∷ ys)
    on true o e =
        let g = ltb-true z.left (y.left - x.left) o in
        let k : y.left - x.left - z.left ≡ y.left - (x.left + z.left) = omega arith in
        rw (buyer_used n z y' j ys g, join_same p z y' z.left (walk n j (less z.left y' ∷ ys)) e refl, buyer_used (suc n) joint y j ys (omega arith), k, walk_more n j (less (x.left + z.left) y ∷ ys) (omega arith)) refl
    on false o e =
        let g = ltb-false z.left (y.left - x.left) o in
        let u = y.left - x.left in
        let k : x.left + u ≡ y.left = omega arith in
        let l : use_up y.left joint j ≡ use_up u z j = rw (eqb-true x.account z.account e) (let d : x.left + z.left - y.left ≡ z.left - u = omega arith in rw d refl) in
        rw (seller_used n z y' j ys g, join_same p z y' u (walk n (use_up u z j) ys) e refl, seller_used (suc n) joint y j ys (omega arith), k, l, walk_more n (use_up u z j) ys (omega (arith, use_up_length u z j))) refl

    go : (t : Bool) → eqb x.account z.account ≡ t → join_pair p (walk (suc n) (z ∷ j) (y' ∷ ys)) ≡ walk (suc (suc n)) (pick t (joint ∷ j) (x ∷ z ∷ j)) (y ∷ ys)
    go true e = on (ltb z.left (y.left - x.left)) refl e
    go false e = rw (buyer_used (suc n) x y (z ∷ j) ys h, join_other (suc n) p z j (y' ∷ ys) e) refl

join_length : (x : Listed) (l : List Listed) → length (join_lot x l) ≤ 1 + length l
unfolding join_lot
join_length x [] = omega arith
join_length x (y ∷ l) = by_pick (λ (m : List Listed). length m ≤ 1 + length (y ∷ l)) (eqb x.account y.account) (λ e. omega arith) (λ e. omega arith)

pub joins_length : (l : List Listed) → length (join_lots l) ≤ length l
unfolding join_lots
joins_length [] = omega arith
joins_length (x ∷ l) = omega (arith, joins_length l, join_length x (join_lots l))

joined_walk : (n : ℕ) (xs ys : List Listed) → length xs + length ys ≤ n → All SomeLeft xs → Climbing ys → joined (walk n xs ys) ≡ walk n (join_lots xs) ys
unfolding joined join_lots
joined_walk zero [] ys h s c = rw (no_buyers zero ys) refl
joined_walk zero (x ∷ xs) ys h s c = absurd (omega arith)
joined_walk (suc n) [] ys h s c = rw (no_buyers (suc n) ys) refl
joined_walk (suc n) (x ∷ xs) [] h s c = rw (no_sellers (suc n) (x ∷ xs), no_sellers (suc n) (join_lot x (join_lots xs))) refl
joined_walk (suc n) (x ∷ xs) (y ∷ ys) h s c =
    let v = y.left in
    go (ltb x.left v) refl (joined_walk n xs (less x.left y ∷ ys) (omega arith) s.1 c)
    (joined_walk n (use_up v x xs) ys (omega (arith, use_up_length v x xs)) (use_up_all v x xs SomeLeft (λ g. g) s.1) c.1)
  where
    go : (t : Bool) → ltb x.left y.left ≡ t → joined (walk n xs (less x.left y ∷ ys)) ≡ walk n (join_lots xs) (less x.left y ∷ ys)
        → joined (walk n (use_up y.left x xs) ys) ≡ walk n (join_lots (use_up y.left x xs)) ys → joined (walk (suc n) (x ∷ xs) (y ∷ ys)) ≡ walk (suc n) (join_lot x (join_lots xs)) (y ∷ ys)
    go true e f g =
        let o = ltb-true x.left y.left e in
        rw (buyer_used n x y xs ys o, f) (buyer_turn n x y (join_lots xs) ys (omega (arith, joins_length xs)) o)
    go false e f g =
        let o = ltb-false x.left y.left e in
        rw (seller_used n x y xs ys o, g, join_apart n (of_two x y y.left) (join_lots (use_up y.left x xs)) ys c.0) (seller_turn n x y xs o (join_lots xs) ys refl (joins_some xs s.1))

-- more turns than the lists have members
walk_enough : (d : ℕ) (xs ys : List Listed) → walk (d + (length xs + length ys)) xs ys ≡ walked xs ys
walk_enough zero xs ys = rw zero-add
walk_enough (suc d) xs ys =
    let n = length xs + length ys in
    let e : suc d + n ≡ suc (d + n) = omega arith in
    rw e (walk_more (d + n) xs ys (omega arith) ∙ walk_enough d xs ys)

-- the pairs of a walk, joined, are those of the walk over joined lots
pub joined_walked : (xs ys : List Listed) → All SomeLeft xs → Climbing ys → joined (walked xs ys) ≡ walked (join_lots xs) ys
joined_walked xs ys s c =
    let n = length xs + length ys in
    let m = length (join_lots xs) + length ys in
    let e : n ≡ n - m + m = omega (arith, joins_length xs) in
    joined_walk n xs ys (omega arith) s c ∙ ap (λ (k : ℕ). walk k (join_lots xs) ys) e ∙ walk_enough (n - m) (join_lots xs) ys
