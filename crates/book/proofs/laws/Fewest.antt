-- Fewest pairs: "No pairing that empties every position left after the first pass has fewer than pairs less gap." The chosen masks are as many as can be,
-- the plan of their walks and the rest's gives nobody more than it has and empties every position, and every pairing's groups are masks that could have
-- been chosen. By induction on the accounts and on the pairs. Assumes nothing.
use Rattle.std.specs.Prelude.{◌≡◌, refl, ◌≢◌, Bool, true, false, List, [], ◌∷◌, map, ℕ, zero, suc, ◌+◌, ◌-◌, ◌^◌, ◌≤◌, ◌<◌, min, max, eqb, ltb, length}
use Rattle.std.proofs.Common.{sym, ap, ◌∙◌, arith, inl, inr, eqb-true, eq-eqb, ltb-true, ltb-false, leb-false, lt-ltb}
use Rattle.std.proofs.Math.Pow.{pow_mono}
use Rattle.std.proofs.lemmas.Nat.{pow_pos}
use Rattle.std.proofs.lemmas.List.{length-map, length-append}
use Rattle.std.specs.Int.Bits.{and_zero_r}
use Rattle.coal.specs.Choice.{pick}
use Rattle.book.specs.Types.{Side, Book, Pair}
use Rattle.book.specs.Counting.{All, those, sum}
use Rattle.book.specs.Rows.{any_class, is_long, is_short, long_units, short_units}
use Rattle.book.specs.Tables.{account_at}
use Rattle.book.specs.Pairing.{pair, freeze}
use Rattle.book.specs.Masks.{members, added, is_balanced, tests_made, balanced_masks, united, rest}
use Rattle.book.specs.Closing.{pair_all, with_units, is_buyer, is_seller, buyers, sellers, remaining, longs, shorts, is_few, tests, chosen, walk_of, walk_each, plan, planned, old_passes, made, later_passes, pairs, gap}
use Rattle.book.specs.FewestPairs.{units_for, bought, sold, Empties, Disjoint, Upward, In, First}
use Rattle.book.specs.Demand3.{units_long, units_short}
use Rattle.book.proofs.laws.Counting.{by_pick, by_eq, sum_same, only, impossible}
use Rattle.book.proofs.laws.Sound.{Core}
use Rattle.book.proofs.laws.Walking.{all_map}
use Rattle.book.proofs.laws.Listing.{those_cases, those_all, listed_left}
use Rattle.book.proofs.laws.Closing.{buyer_some, seller_some}
use Rattle.book.proofs.laws.Masks.{over, over_same, over_plus, over_most, over_one, over_rest, members_all, members_map}
use Rattle.book.proofs.laws.Choosing.{choose_all, choose_disjoint, choose_upward, choose_most, choose_first}
use Rattle.book.proofs.laws.Groups.{grouped, over_once}
use Rattle.book.proofs.laws.Plans.{long_at, short_at, long_of, short_of, Fair, fair_few, listed_over, units_append, walk_of_few, walk_of_most, walk_of_all, each_few, united_even, each_most, each_all}

-- ---- numbers at which a test holds

those_upward : (p : ℕ → Bool) (n i : ℕ) → Upward (those n i p)
unfolding those
those_upward p zero i = tt
those_upward p (suc n) i =
    let r = those_upward p n (i + 1) in
    those_cases Upward p n i (λ e. (those_all (λ k. i < k) p n (i + 1) (λ k x y q. omega arith), r)) (λ e. r)

those_in : (p : ℕ → Bool) (n i g : ℕ) → i ≤ g → g < i + n → p g ≡ true → In g (those n i p)
those_in p zero i g h k e = absurd (omega arith)
those_in p (suc n) i g h k e =
    let r : i ≢ g → In g (those n (i + 1) p) = λ d. those_in p n (i + 1) g (omega arith) (omega arith) e in
    those_cases (In g) p n i (λ q. by_eq g i inl (λ d. inr (r (omega arith)))) (λ q. r (λ d. impossible (cc)))

in_itself : (ms : List ℕ) → All (λ g. In g ms) ms
in_itself [] = tt
in_itself (m ∷ ms) = (inl refl, all_map (λ g. In g ms) (λ g. In g (m ∷ ms)) ms (λ g i. inr i) (in_itself ms))

over_those : (f : ℕ → ℕ) (p : ℕ → Bool) (n i : ℕ) → over f (those n i p) ≡ sum n i (λ k. pick (p k) (f k) 0)
unfolding those sum added
over_those f p zero i = refl
over_those f p (suc n) i =
    let r = over_those f p n (i + 1) in
    those_cases (λ l. over f l ≡ pick (p i) (f i) 0 + sum n (i + 1) (λ k. pick (p k) (f k) 0)) p n i (λ e. rw e (omega arith)) (λ e. rw e (omega arith))

-- ---- the accounts that remain

module _ (b : Book) where
  abbrev left : ℕ → Bool
  left k = ltb 0 (account_at b k).units

  -- "lowest account lowest bit"
  pub remaining_up : Upward (remaining b)
  unfolding remaining
  remaining_up = those_upward left b.account_count 0

  pub remaining_all : All (λ k. (k < b.account_count) × (0 < (account_at b k).units)) (remaining b)
  unfolding remaining
  remaining_all = those_all _ left b.account_count 0 (λ k x y e. (omega arith, ltb-true 0 (account_at b k).units e))

  over_mask : (f g : ℕ → ℕ) → ((k : ℕ) → k < b.account_count → f k ≡ g k) → (m : ℕ) → over f (members (remaining b) m) ≡ over g (members (remaining b) m)
  over_mask f g h m = over_same f g (members (remaining b) m) (members_all _ (remaining b) m (all_map _ _ (remaining b) (λ k x. h k x.0) remaining_all))

  -- the units on one side
  module _ (f : Side → Bool) where
    abbrev pub on : ℕ → ℕ
    on k = pick (f (account_at b k).side) (account_at b k).units 0

    on_left : (k : ℕ) → pick (left k) (on k) 0 ≡ on k
    on_left k = go (f (account_at b k).side) (account_at b k).units
      where
        go : (t : Bool) (u : ℕ) → pick (ltb 0 u) (pick t u 0) 0 ≡ pick t u 0
        go true zero = refl
        go false zero = refl
        go t (suc u) = rw (lt-ltb 0 (suc u) (omega arith))

    -- what the accounts that remain have is what there is, in all and of each
    pub on_all : over on (remaining b) ≡ sum b.account_count 0 on
    unfolding remaining
    on_all = over_those on left b.account_count 0 ∙ sum_same _ _ b.account_count 0 (λ k x y. on_left k)

    pub on_each : (k : ℕ) → k < b.account_count → over (λ j. only j (on j) k) (remaining b) ≡ on k
    unfolding remaining
    on_each k h = sym (listed_over on k (those b.account_count 0 left)) ∙ listed_left on left k b.account_count h ∙ on_left k

  -- ---- the masks that are tested and balanced

  balanced_even : (m : ℕ) → is_balanced (longs b) (shorts b) m ≡ true → over (long_of b) (members (remaining b) m) ≡ over (short_of b) (members (remaining b) m)
  unfolding longs shorts
  balanced_even m e = ap added (sym (members_map (long_of b) (remaining b) m)) ∙ eqb-true _ _ e ∙ ap added (members_map (short_of b) (remaining b) m)

  even_balanced : (m : ℕ) → over (long_of b) (members (remaining b) m) ≡ over (short_of b) (members (remaining b) m) → is_balanced (longs b) (shorts b) m ≡ true
  unfolding longs shorts
  even_balanced m e = eq-eqb _ _ (ap added (members_map (long_of b) (remaining b) m) ∙ e ∙ ap added (sym (members_map (short_of b) (remaining b) m)))

  module _ (budget : ℕ) where
    -- the tested balanced masks
    abbrev candidates : List ℕ
    candidates = balanced_masks (longs b) (shorts b) (tests b budget)

    tests_few : tests b budget ≤ 2 ^ length (remaining b) - 1
    unfolding tests
    tests_few = by_pick (λ (t : ℕ). t ≤ 2 ^ length (remaining b) - 1) (is_few b) (λ e. omega arith) (λ e. omega arith)

    candidates_fair : All (Fair b) candidates
    unfolding balanced_masks
    candidates_fair = those_all (Fair b) (is_balanced (longs b) (shorts b)) (tests b budget) 1
        (λ m x y e. record { some = omega arith; few = omega (arith, tests_few, pow_pos (length (remaining b))); even = balanced_even m e })

    candidates_some : All (λ m. 0 < m) candidates
    candidates_some = all_map _ _ candidates (λ m f. f.some) candidates_fair

    candidates_up : Upward candidates
    unfolding balanced_masks
    candidates_up = those_upward (is_balanced (longs b) (shorts b)) (tests b budget) 1

    -- every fair mask, where every mask was tested
    fair_in : tests b budget ≡ 2 ^ length (remaining b) - 1 → (m : ℕ) → Fair b m → In m candidates
    unfolding balanced_masks
    fair_in t m f = those_in (is_balanced (longs b) (shorts b)) (tests b budget) 1 m (omega (arith, f.some)) (omega (arith, f.few)) (even_balanced m f.even)

    pub chosen_fair : All (Fair b) (chosen b budget)
    unfolding chosen
    chosen_fair = choose_all (Fair b) candidates 0 candidates_fair

    pub chosen_disjoint : Disjoint (chosen b budget)
    unfolding chosen
    chosen_disjoint = choose_disjoint candidates 0

    pub chosen_upward : Upward (chosen b budget)
    unfolding chosen
    chosen_upward = choose_upward candidates 0 candidates_up

    -- "Of the tested balanced masks"
    pub chosen_in : All (λ g. In g (balanced_masks (longs b) (shorts b) (tests b budget))) (chosen b budget)
    unfolding chosen
    chosen_in = choose_all (λ g. In g candidates) candidates 0 (in_itself candidates)

    -- "as many disjoint ones as can be"
    pub chosen_greatest : (gs : List ℕ) → Disjoint gs → All (λ g. In g (balanced_masks (longs b) (shorts b) (tests b budget))) gs → length gs ≤ length (chosen b budget)
    unfolding chosen
    chosen_greatest gs d h = choose_most candidates gs 0 candidates_some d (all_map _ _ gs (λ g i. (i, and_zero_r g)) h)

    -- "on a tie the list of masks, each list rising, that comes first number by number"
    pub chosen_first : (gs : List ℕ) → Disjoint gs → Upward gs → All (λ g. In g (balanced_masks (longs b) (shorts b) (tests b budget))) gs → length gs ≡ length (chosen b budget) → First (chosen b budget) gs
    unfolding chosen
    chosen_first gs d u h e = choose_first candidates gs 0 candidates_some candidates_up d u (all_map _ _ gs (λ g i. (i, and_zero_r g)) h) e

    -- as many as any fair masks that are apart
    pub chosen_most : tests b budget ≡ 2 ^ length (remaining b) - 1 → (gs : List ℕ) → Disjoint gs → All (Fair b) gs → length gs ≤ length (chosen b budget)
    chosen_most t gs d h = chosen_greatest gs d (all_map _ _ gs (λ g f. fair_in t g f) h)

    -- ---- the plan

    united_below : united (chosen b budget) < 2 ^ length (remaining b)
    united_below = fair_few b (chosen b budget) chosen_fair

    abbrev others : ℕ
    others = rest (length (remaining b)) (chosen b budget)

    -- what an account gets in the plan are its shares in the walks of the chosen masks and in that of the rest
    plan_units : (end : Pair → ℕ) (k : ℕ) → units_for end k (plan b budget) ≡ units_for end k (walk_each b (chosen b budget)) + units_for end k (walk_of b (members (remaining b) others))
    unfolding plan
    plan_units end k = units_append end k (walk_each b (chosen b budget)) (walk_of b (members (remaining b) others))

    -- no account buys or sells more than it has, whatever the book
    pub plan_most : (k : ℕ) → k < b.account_count → (bought k (plan b budget) ≤ long_units (account_at b k)) × (sold k (plan b budget) ≤ short_units (account_at b k))
    plan_most k h =
        let ms = chosen b budget in
        let ks = remaining b in
        let p = each_most b ms chosen_disjoint k in
        let w = walk_of_most b (members ks others) k in (
          omega (arith, plan_units (λ q. q.buyer) k, p.0, w.0, over_rest (long_at b k) ks (united ms) united_below, on_each is_long k h),
          omega (arith, plan_units (λ q. q.seller) k, p.1, w.1, over_rest (short_at b k) ks (united ms) united_below, on_each is_short k h),
        )

    -- its pairs and the chosen masks together are no more than the accounts that remain
    plan_short : length (plan b budget) + length (chosen b budget) ≤ length (remaining b)
    unfolding plan
    plan_short =
        let ks = remaining b in
        let ms = chosen b budget in
        let l = members ks others in
        simp length-append (omega (arith, walk_of_few b l, each_few b ms chosen_disjoint chosen_fair, over_rest (λ k. 1) ks (united ms) united_below, over_one ks, over_one l))

    -- no more pairs than accounts remain
    pub plan_few : length (plan b budget) ≤ length (remaining b)
    plan_few = omega (arith, plan_short)

    module _ (level : units_long b ≡ units_short b) where
      -- the rest is balanced too
      rest_even : over (long_of b) (members (remaining b) others) ≡ over (short_of b) (members (remaining b) others)
      unfolding units_long units_short
      rest_even =
          let j = united (chosen b budget) in
          omega (
            arith,
            level,
            on_all is_long,
            on_all is_short,
            over_rest (long_of b) (remaining b) j united_below,
            over_rest (short_of b) (remaining b) j united_below,
            united_even b (chosen b budget) chosen_disjoint chosen_fair,
          )

      -- the plan empties every position
      pub plan_empties : Empties b (plan b budget)
      plan_empties =
          let ms = chosen b budget in
          let ks = remaining b in
          let j = united ms in
          let have = all_map _ _ ks (λ k h. h.1) remaining_all in
          let p = each_all b have ms chosen_disjoint chosen_fair in
          let w = walk_of_all b (members ks others) (members_all _ ks others have) rest_even in
          record {
            long = λ k h. omega (arith, plan_units (λ q. q.buyer) k, (p k).0, (w k).0, over_rest (long_at b k) ks j united_below, on_each is_long k h);
            short = λ k h. omega (arith, plan_units (λ q. q.seller) k, (p k).1, (w k).1, over_rest (short_at b k) ks j united_below, on_each is_short k h);
          }

    -- where every mask was tested no pairing makes fewer: its groups are fair masks
    plan_best : tests b budget ≡ 2 ^ length (remaining b) - 1 → (ps : List Pair) → Empties b ps → length (plan b budget) ≤ length ps
    plan_best t ps e =
        let g = grouped (remaining b) remaining_up ps in
        let long = over_mask (λ k. bought k ps) (long_of b) e.long in
        let short = over_mask (λ k. sold k ps) (short_of b) e.short in
        let most = chosen_most t g.masks g.apart (all_map _ _ g.masks (λ m h. record { some = h.some; few = h.few; even = sym (long m) ∙ h.even ∙ short m }) g.groups) in
        omega (arith, plan_short, g.many)

-- ---- the larger of buyers and sellers

-- accounts each of which is an end of some pair are at most as many as the pairs
ends_few : (end : Pair → ℕ) (l : List ℕ) → Upward l → (ps : List Pair) → over (λ k. min 1 (units_for end k ps)) l ≤ length ps
unfolding units_for
ends_few end l up [] = omega (arith, over_plus (λ k. 0) (λ k. 0) l)
ends_few end l up (p ∷ ps) =
    omega (
      arith,
      over_most (λ k. min 1 (units_for end k (p ∷ ps))) (λ k. only (end p) 1 k + min 1 (units_for end k ps)) l (λ k. go (eqb (end p) k) p.units (units_for end k ps)),
      over_plus (only (end p) 1) (λ k. min 1 (units_for end k ps)) l,
      over_once (end p) l up,
      ends_few end l up ps,
    )
  where
    go : (t : Bool) (u x : ℕ) → min 1 (pick t u 0 + x) ≤ pick t 1 0 + min 1 x
    go true u x = omega arith
    go false u x = omega arith

module _ (b : Book) (ps : List Pair) where
  side_few : (end : Pair → ℕ) (p : ℕ → Bool) → ((k : ℕ) → k < b.account_count → p k ≡ true → 0 < units_for end k ps) → length (map (with_units b) (those b.account_count 0 p)) ≤ length ps
  side_few end p h =
      let l = those b.account_count 0 p in
      let one : over (λ k. 1) l ≡ over (λ k. min 1 (units_for end k ps)) l = over_same _ _ l (those_all _ p b.account_count 0 (λ k x y q. omega (arith, h k (omega arith) q))) in
      omega (arith, length-map l (with_units b), over_one l, ends_few end l (those_upward p b.account_count 0) ps)

  larger_few : Core b → Empties b ps → max (length (buyers b)) (length (sellers b)) ≤ length ps
  unfolding buyers sellers
  larger_few r e = omega (arith, side_few (λ p. p.buyer) (is_buyer b) long, side_few (λ p. p.seller) (is_seller b) short)
    where
      long : (k : ℕ) → k < b.account_count → is_buyer b k ≡ true → 0 < bought k ps
      long k h q = rw (e.long k h, q) (buyer_some b r k h q)

      short : (k : ℕ) → k < b.account_count → is_seller b k ≡ true → 0 < sold k ps
      short k h q = rw (e.short k h, q) (seller_some b r k h q)

-- ---- what stands

-- each pair is a match
pub pair_made : (b : Book) (c : Bool) (days i j u : ℕ) → (pair b c days i j u).match_count ≡ b.match_count + 1
unfolding pair freeze
pair_made b c days i j u = by_pick (λ (e : Book). e.match_count ≡ b.match_count + 1) b.board (λ q. refl) (λ q. refl)

pub pairs_made : (c : Bool) (ps : List Pair) (b : Book) → (pair_all c ps b).match_count ≡ b.match_count + length ps
unfolding pair_all
pairs_made c [] b = omega arith
pairs_made c (p ∷ ps) b = omega (arith, pairs_made c ps (pair b c 1 p.buyer p.seller p.units), pair_made b c 1 p.buyer p.seller p.units)

module _ (b : Book) (budget : ℕ) where
  pub plan_made : made b (planned b budget) ≡ length (plan b budget)
  unfolding planned
  plan_made = omega (arith, pairs_made any_class (plan b budget) b)

  -- where every mask was tested, ten or fewer accounts remain
  tested_few : tests b budget ≡ 2 ^ length (remaining b) - 1 → is_few b ≡ true
  unfolding tests
  tested_few t = go (is_few b) refl t
    where
      go : (s : Bool) → is_few b ≡ s → pick s (tests_made budget (length (remaining b))) 0 ≡ 2 ^ length (remaining b) - 1 → s ≡ true
      go true e q = refl
      go false e q = absurd (omega (arith, leb-false (length (remaining b)) 10 e, pow_mono {i = 1} {j = length (remaining b)} (omega (arith, leb-false (length (remaining b)) 10 e))))

  -- what stands makes no more pairs than the plan, where it is asked
  stands_few : is_few b ≡ true → pairs b budget ≤ length (plan b budget)
  unfolding pairs later_passes
  stands_few f =
      let p = made b (planned b budget) in
      let o = made b (old_passes b) in
      rw f (by_pick (λ (e : Book). made b e ≤ length (plan b budget)) (ltb p o) (λ q. omega (arith, plan_made)) (λ q. omega (arith, plan_made, ltb-false p o q)))

-- "No pairing that empties every position left after the first pass has fewer than pairs less gap."
pub fewest : (b : Book) → Core b → (budget : ℕ) (ps : List Pair) → Empties b ps → pairs b budget - gap b budget ≤ length ps
unfolding gap
fewest b r budget ps e = by_pick (λ (g : ℕ). pairs b budget - g ≤ length ps) (eqb (tests b budget) (2 ^ length (remaining b) - 1))
    (λ q. let t = eqb-true (tests b budget) (2 ^ length (remaining b) - 1) q in omega (arith, stands_few b budget (tested_few b budget t), plan_best b budget t ps e))
    (λ q. omega (arith, larger_few b ps r e))
