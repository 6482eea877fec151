-- Walks of groups of accounts: such a walk gives nobody more than it has, that of a balanced group empties it, and it makes fewer pairs than the group
-- has accounts. By induction on the turns and on the masks. Assumes nothing.
use Rattle.std.specs.Prelude.{◌≡◌, refl, Bool, true, false, cond, List, [], ◌∷◌, map, ◌++◌, ℕ, zero, suc, ◌+◌, ◌-◌, ◌^◌, ◌≤◌, ◌<◌, min, eqb, length}
use Rattle.std.specs.List.{filter}
use Rattle.std.proofs.Common.{sym, ap, ◌∙◌, arith, eqb-true}
use Rattle.std.proofs.lemmas.List.{length-map, length-append}
use Rattle.coal.specs.Choice.{pick}
use Rattle.book.specs.Types.{Side, Book, Listed, Pair}
use Rattle.book.specs.Counting.{All, one_if}
use Rattle.book.specs.Rows.{is_long, is_short, long_units, short_units}
use Rattle.book.specs.Tables.{account_at}
use Rattle.book.specs.Masks.{members, added, united}
use Rattle.book.specs.Closing.{use_up, walk, with_units, is_buyer, is_seller, remaining, walk_of, walk_each}
use Rattle.book.specs.FewestPairs.{units_for, bought, sold, Disjoint}
use Rattle.book.proofs.laws.Counting.{by_pick, only}
use Rattle.book.proofs.laws.Walking.{all_map, all_of, sum_of, left_of, use_up_left, use_up_all, use_up_length}
use Rattle.book.proofs.laws.Listing.{listed}
use Rattle.book.proofs.laws.Masks.{Balanced, over, all_every, over_same, over_one, over_none, over_or, members_all, members_some, united_few, united_apart}

-- ---- a walk

-- "drop whoever is used up": each pair of a walk drops one, and the last needs two
pub walk_few : (n : ℕ) (xs ys : List Listed) → length (walk n xs ys) ≤ length xs + length ys - 1
unfolding walk
walk_few zero xs ys = omega arith
walk_few (suc n) [] ys = omega arith
walk_few (suc n) (x ∷ xs) [] = omega arith
walk_few (suc n) (x ∷ xs) (y ∷ ys) =
    let u = min x.left y.left in
    let fewer : length (use_up u x xs) + length (use_up u y ys) ≤ length xs + length ys + 1 = omega (arith, use_up_length u x xs, use_up_length u y ys) in
    omega (arith, walk_few n (use_up u x xs) (use_up u y ys))

-- a walk gives nobody more than is left to it
pub walk_most : (n : ℕ) (xs ys : List Listed) (k : ℕ) → (bought k (walk n xs ys) ≤ left_of k xs) × (sold k (walk n xs ys) ≤ left_of k ys)
unfolding walk units_for
walk_most zero xs ys k = (omega arith, omega arith)
walk_most (suc n) [] ys k = (omega arith, omega arith)
walk_most (suc n) (x ∷ xs) [] k = (omega arith, omega arith)
walk_most (suc n) (x ∷ xs) (y ∷ ys) k =
    let u = min x.left y.left in
    let ih = walk_most n (use_up u x xs) (use_up u y ys) k in
    (omega (arith, ih.0, use_up_left u x xs k (omega arith)), omega (arith, ih.1, use_up_left u y ys k (omega arith)))

abbrev some : Listed → Type 0
some x = 0 < x.left

abbrev left : Listed → ℕ
left x = x.left

use_up_over : (u : ℕ) (x : Listed) (xs : List Listed) → u ≤ x.left → over left (use_up u x xs) + u ≡ over left (x ∷ xs)
unfolding added
use_up_over u x xs h = by_pick (λ (l : List Listed). over left l + u ≡ x.left + over left xs) (eqb (x.left - u) 0)
    (λ e. let z : x.left - u ≡ 0 = eqb-true _ _ e in omega arith) (λ e. omega arith)

-- a list with nothing left has no members
over_some : (xs : List Listed) → All some xs → over left xs ≡ 0 → xs ≡ []
unfolding added
over_some [] h e = refl
over_some (x ∷ xs) h e = absurd (omega (arith, h.0))

-- a walk of two lists of equal units uses up everybody
pub walk_all : (n : ℕ) (xs ys : List Listed) → length xs + length ys ≤ n → All some xs → All some ys → over left xs ≡ over left ys
    → (k : ℕ) → (bought k (walk n xs ys) ≡ left_of k xs) × (sold k (walk n xs ys) ≡ left_of k ys)
unfolding walk units_for sum_of added
walk_all zero [] [] f h g e k = (refl, refl)
walk_all zero [] (y ∷ ys) f h g e k = absurd (omega arith)
walk_all zero (x ∷ xs) ys f h g e k = absurd (omega arith)
walk_all (suc n) [] ys f h g e k = let z = over_some ys g (sym e) in rw z (refl, refl)
walk_all (suc n) (x ∷ xs) [] f h g e k = absurd (omega (arith, h.0))
walk_all (suc n) (x ∷ xs) (y ∷ ys) f h g e k =
    let u = min x.left y.left in
    let ih = walk_all n (use_up u x xs) (use_up u y ys) (omega (arith, use_up_length u x xs, use_up_length u y ys))
    (use_up_all u x xs some (λ z. z) h.1) (use_up_all u y ys some (λ z. z) g.1) (omega (arith, use_up_over u x xs (omega arith), use_up_over u y ys (omega arith))) k in
    (omega (arith, ih.0, use_up_left u x xs k (omega arith)), omega (arith, ih.1, use_up_left u y ys k (omega arith)))

-- ---- a walk of some accounts

filter_over : (p : ℕ → Bool) (f : ℕ → ℕ) (l : List ℕ) → over f (filter p l) ≡ over (λ k. pick (p k) (f k) 0) l
unfolding added
filter_over p f [] = refl
filter_over p f (k ∷ l) = go (p k) (filter p l) (filter_over p f l)
  where
    go : (t : Bool) (m : List ℕ) → over f m ≡ over (λ k. pick (p k) (f k) 0) l → over f (cond t (k ∷ m) m) ≡ pick t (f k) 0 + over (λ k. pick (p k) (f k) 0) l
    go true m e = omega arith
    go false m e = omega arith

filter_two : (p q : ℕ → Bool) → ((k : ℕ) → one_if (p k) + one_if (q k) ≤ 1) → (l : List ℕ) → length (filter p l) + length (filter q l) ≤ length l
filter_two p q h [] = omega arith
filter_two p q h (k ∷ l) = go (p k) (q k) (h k) (filter p l) (filter q l) (filter_two p q h l)
  where
    go : (s t : Bool) → one_if s + one_if t ≤ 1 → (x y : List ℕ) → length x + length y ≤ length l → length (cond s (k ∷ x) x) + length (cond t (k ∷ y) y) ≤ suc (length l)
    go true true e x y i = absurd (omega arith)
    go true false e x y i = omega arith
    go false true e x y i = omega arith
    go false false e x y i = omega arith

pub filter_all : (P : ℕ → Type 0) (p : ℕ → Bool) (l : List ℕ) → All P l → All P (filter p l)
filter_all P p [] h = tt
filter_all P p (k ∷ l) h = go (p k) (filter p l) (filter_all P p l h.1)
  where
    go : (t : Bool) (m : List ℕ) → All P m → All P (cond t (k ∷ m) m)
    go true m g = (h.0, g)
    go false m g = g

-- what is left to account k in a list of accounts
pub listed_over : (g : ℕ → ℕ) (k : ℕ) (l : List ℕ) → left_of k (map (listed g) l) ≡ over (λ j. only j (g j) k) l
unfolding sum_of added
listed_over g k [] = refl
listed_over g k (j ∷ l) = ap (only j (g j) k +◌) (listed_over g k l)

module _ (b : Book) where
  -- the long and the short units of an account, and those of account j where it is k
  abbrev pub long_of : ℕ → ℕ
  long_of k = long_units (account_at b k)

  abbrev pub short_of : ℕ → ℕ
  short_of k = short_units (account_at b k)

  abbrev pub long_at : ℕ → ℕ → ℕ
  long_at k j = only j (long_of j) k

  abbrev pub short_at : ℕ → ℕ → ℕ
  short_at k j = only j (short_of j) k

  left_over : (l : List ℕ) → over left (map (with_units b) l) ≡ over (λ j. (account_at b j).units) l
  unfolding added
  left_over [] = refl
  left_over (j ∷ l) = ap ((account_at b j).units +◌) (left_over l)

  pub walk_of_few : (l : List ℕ) → length (walk_of b l) ≤ length l - 1
  unfolding walk_of
  walk_of_few l =
      let p = is_buyer b in
      let q = is_seller b in
      let xs = map (with_units b) (filter p l) in
      let ys = map (with_units b) (filter q l) in
      omega (arith, walk_few (length xs + length ys) xs ys, length-map (filter p l) (with_units b), length-map (filter q l) (with_units b), filter_two p q (λ k. apart (account_at b k).side) l)
    where
      apart : (s : Side) → one_if (is_long s) + one_if (is_short s) ≤ 1
      apart Side.Flat = omega arith
      apart Side.Long = omega arith
      apart Side.Short = omega arith

  -- what accounts on one side have
  side_over : (p : ℕ → Bool) (l : List ℕ) (k : ℕ) → left_of k (map (with_units b) (filter p l)) ≡ over (λ j. only j (pick (p j) (account_at b j).units 0) k) l
  side_over p l k =
      listed_over (λ j. (account_at b j).units) k (filter p l) ∙ filter_over p (λ j. only j (account_at b j).units k) l
      ∙ over_same _ _ l (all_every _ l (λ j. swap (p j) (eqb j k) (account_at b j).units))
    where
      swap : (s t : Bool) (u : ℕ) → pick s (pick t u 0) 0 ≡ pick t (pick s u 0) 0
      swap true true u = refl
      swap true false u = refl
      swap false true u = refl
      swap false false u = refl

  -- no account of a list buys or sells more than it has
  pub walk_of_most : (l : List ℕ) (k : ℕ) → (bought k (walk_of b l) ≤ over (long_at k) l) × (sold k (walk_of b l) ≤ over (short_at k) l)
  unfolding walk_of
  walk_of_most l k =
      let p = is_buyer b in
      let q = is_seller b in
      let xs = map (with_units b) (filter p l) in
      let ys = map (with_units b) (filter q l) in
      let w = walk_most (length xs + length ys) xs ys k in
      (omega (arith, w.0, side_over p l k), omega (arith, w.1, side_over q l k))

  pub walk_of_all : (l : List ℕ) → All (λ k. 0 < (account_at b k).units) l → over long_of l ≡ over short_of l
      → (k : ℕ) → (bought k (walk_of b l) ≡ over (long_at k) l) × (sold k (walk_of b l) ≡ over (short_at k) l)
  unfolding walk_of
  walk_of_all l h e k =
      let p = is_buyer b in
      let q = is_seller b in
      let units : ℕ → ℕ = λ j. (account_at b j).units in
      let xs = map (with_units b) (filter p l) in
      let ys = map (with_units b) (filter q l) in
      let w = walk_all (length xs + length ys) xs ys (omega arith)
      (all_of some (with_units b) (filter p l) (filter_all _ p l h)) (all_of some (with_units b) (filter q l) (filter_all _ q l h))
      (omega (arith, left_over (filter p l), left_over (filter q l), filter_over p units l, filter_over q units l)) k in
      (w.0 ∙ side_over p l k, w.1 ∙ side_over q l k)

-- ---- the walks of a list of masks

pub units_append : (end : Pair → ℕ) (k : ℕ) (ps qs : List Pair) → units_for end k (ps ++ qs) ≡ units_for end k ps + units_for end k qs
unfolding units_for
units_append end k [] qs = omega arith
units_append end k (p ∷ ps) qs = omega (arith, units_append end k ps qs)

module _ (b : Book) where
  -- a mask of some accounts that remain, with equal long and short units
  abbrev pub Fair : ℕ → Type 0
  Fair m = Balanced (remaining b) (long_of b) (short_of b) m

  pub fair_few : (ms : List ℕ) → All Fair ms → united ms < 2 ^ length (remaining b)
  fair_few ms h = united_few (length (remaining b)) ms (all_map _ _ ms (λ m f. f.few) h)

  over_united : (f : ℕ → ℕ) (m : ℕ) (ms : List ℕ) → Disjoint (m ∷ ms) → over f (members (remaining b) (united (m ∷ ms))) ≡ over f (members (remaining b) m) + over f (members (remaining b) (united ms))
  unfolding united
  over_united f m ms d = over_or f (remaining b) m (united ms) (united_apart m ms d.0)

  -- fewer pairs than accounts, by the number of masks
  pub each_few : (ms : List ℕ) → Disjoint ms → All Fair ms → length (walk_each b ms) + length ms ≤ over (λ k. 1) (members (remaining b) (united ms))
  unfolding walk_each
  each_few [] d h = omega arith
  each_few (m ∷ ms) d h =
      let l = members (remaining b) m in
      let some = members_some (remaining b) m h.0.some h.0.few in
      simp length-append (omega (arith, walk_of_few b l, over_one l, over_united (λ k. 1) m ms d, each_few ms d.1 h.1))

  -- the masks are balanced together
  pub united_even : (ms : List ℕ) → Disjoint ms → All Fair ms → over (long_of b) (members (remaining b) (united ms)) ≡ over (short_of b) (members (remaining b) (united ms))
  unfolding united
  united_even [] d h = over_none (long_of b) (remaining b) ∙ sym (over_none (short_of b) (remaining b))
  united_even (m ∷ ms) d h = omega (arith, over_united (long_of b) m ms d, over_united (short_of b) m ms d, h.0.even, united_even ms d.1 h.1)

  -- no account of a mask buys or sells more than it has
  pub each_most : (ms : List ℕ) → Disjoint ms → (k : ℕ)
      → (bought k (walk_each b ms) ≤ over (long_at b k) (members (remaining b) (united ms))) × (sold k (walk_each b ms) ≤ over (short_at b k) (members (remaining b) (united ms)))
  unfolding walk_each units_for
  each_most [] d k = (omega arith, omega arith)
  each_most (m ∷ ms) d k =
      let l = members (remaining b) m in
      let w = walk_of_most b l k in
      let ih = each_most ms d.1 k in
      (omega (arith, units_append (λ p. p.buyer) k (walk_of b l) (walk_each b ms), w.0, ih.0, over_united (long_at b k) m ms d), omega (arith, units_append (λ p. p.seller) k (walk_of b l) (walk_each b ms), w.1, ih.1, over_united (short_at b k) m ms d))

  module _ (have : All (λ k. 0 < (account_at b k).units) (remaining b)) where
    -- each account of a mask is emptied
    pub each_all : (ms : List ℕ) → Disjoint ms → All Fair ms → (k : ℕ)
        → (bought k (walk_each b ms) ≡ over (long_at b k) (members (remaining b) (united ms))) × (sold k (walk_each b ms) ≡ over (short_at b k) (members (remaining b) (united ms)))
    unfolding walk_each units_for united
    each_all [] d h k = (sym (over_none (long_at b k) (remaining b)), sym (over_none (short_at b k) (remaining b)))
    each_all (m ∷ ms) d h k =
        let l = members (remaining b) m in
        let w = walk_of_all b l (members_all _ (remaining b) m have) h.0.even k in
        let ih = each_all ms d.1 h.1 k in
        (omega (arith, units_append (λ p. p.buyer) k (walk_of b l) (walk_each b ms), w.0, ih.0, over_united (long_at b k) m ms d), omega (arith, units_append (λ p. p.seller) k (walk_of b l) (walk_each b ms), w.1, ih.1, over_united (short_at b k) m ms d))
