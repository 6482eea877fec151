-- The plan: what its functions ask of the accounts that remain, that the groups are those of the definition, and their walks one after the other.
-- Assumes nothing.
use Rattle.std.specs.Prelude.{◌≡◌, refl, ◌≢◌, true, false, ◌&&◌, ltb, List, [], ◌∷◌, ◌++◌, map, ℕ, zero, suc, ◌+◌, ◌/◌, ◌%◌, ◌^◌, ◌≤◌, ◌<◌, eqb, length, drop, get_or, count_ones}
use Rattle.std.proofs.Common.{sym, ap, ◌∙◌, arith, add-one, append_assoc, append-nil, length-append, le-leb, lt-ltb, le-ltb, ltb-true, drop_of_length-le}
use Rattle.std.proofs.Math.Seq.{drop-cons}
use Rattle.std.proofs.Math.Nat.{pow-suc}
use Rattle.std.specs.Int.Count.{ones, ones_step}
use Rattle.std.proofs.lemmas.Nat.{pow_pos}
use Rattle.std.proofs.lemmas.Bool.{lt-leb}
use Rattle.std.proofs.lemmas.List.{length-map, nil_from_length}
use Rattle.book.specs.declared.accounts.Account.{Account}
use Rattle.book.specs.declared.accounts.Side.{Side}
use Rattle.book.specs.declared.tables.Book.{Book}
use Rattle.book.specs.declared.tables.Pair.{Pair}
use Rattle.book.specs.Counting.{All, list_if}
use Rattle.book.specs.Rows.{long_units, short_units, any_class}
use Rattle.book.specs.Tables.{account_at}
use Rattle.book.specs.Masks.{members, tests_made, balanced_masks, choose, rest}
use Rattle.book.specs.Closing.{pair_all, remaining, longs, shorts, is_few, tests, chosen, walk_of, walk_each, plan, planned, old_passes, made, later_passes, pairs}
use Rattle.book.proofs.laws.Counting.{by_pick, and_right}
use Rattle.book.proofs.laws.Sound.{SoundAccount, Core}
use Rattle.book.proofs.laws.Walking.{all_map}
use Rattle.book.proofs.laws.Plans.{walk_of_few}
use Rattle.book.proofs.laws.Fewest.{remaining_all, plan_few, plan_made, pairs_made}
use Rattle.book.proofs.laws.Passes.{Proper, plan_fits}
use Rattle.masks.specs.Asked.{Sided}
use Rattle.closing.specs.Asked.{Ready, Ends, units_on}
use Rattle.closing.proofs.Drafting.{old_follows}

-- "the count of ones gives a group's size"
members_size : {A : Type 0} (xs : List A) (m : ℕ) → m < 2 ^ length xs → length (members xs m) ≡ count_ones m
unfolding members ones
members_size [] m h = let z : m ≡ 0 = omega arith in rw z refl
members_size (x ∷ xs) m h = go (m % 2) (omega arith) (members_size xs (m / 2) (omega (arith, pow-suc 2 (length xs)))) ∙ sym (ones_step m)
  where
    go : (d : ℕ) → d < 2 → length (members xs (m / 2)) ≡ count_ones (m / 2) → length (list_if (eqb d 1) x (members xs (m / 2))) ≡ d + count_ones (m / 2)
    go zero f e = omega (arith, e)
    go (suc zero) f e = omega (arith, e)
    go (suc (suc d)) f e = absurd (omega arith)

-- ---- the accounts that remain

-- one that is long with as many units as it is short has none
one_side : {day : ℕ} (a : Account) → SoundAccount day a → 0 < a.units → long_units a ≢ short_units a
one_side a s h e = go a.side refl
  where
    go : (x : Side) → a.side ≡ x → ⊥
    go Side.Flat q = omega (arith, s.flat_none q, h)
    go Side.Long q = let z : a.units ≡ 0 = rw q at e in omega (arith, z, h)
    go Side.Short q = let z : 0 ≡ a.units = rw q at e in omega (arith, z, h)

module _ {b : Book} (r : Core b) {ks : List ℕ} (e : ks ≡ remaining b) where
  pub there : All (λ k. k < 32) ks
  there = rw e (all_map _ (λ k. k < 32) (remaining b) (λ k h. omega (arith, h.0, r.accounts.few)) (remaining_all b))

  each_sided : (l : List ℕ) → All (λ k. (k < b.account_count) × (0 < (account_at b k).units)) l → Sided (map (units_on b Side.Long) l) (map (units_on b Side.Short) l)
  each_sided [] h k g = absurd (omega arith)
  each_sided (j ∷ l) h zero g = one_side (account_at b j) (r.accounts.rows j h.0.0) h.0.1
  each_sided (j ∷ l) h (suc k) g = each_sided l h.1 k (omega arith)

  pub sided : {ls ss : List ℕ} → ls ≡ map (units_on b Side.Long) ks → ss ≡ map (units_on b Side.Short) ks → Sided ls ss
  sided l s = rw (l, s, e) (each_sided (remaining b) (remaining_all b))

-- ---- the groups

-- the masks ms and the rest are the definition's
pub record GroupsOf (b : Book) (budget : ℕ) (ks ms : List ℕ) (others : ℕ) : Type 0 where
  pub chosen_are : ms ≡ chosen b budget
  pub walked : walk_each b ms ++ walk_of b (members ks others) ≡ plan b budget
  pub room : length (walk_each b ms) + length (walk_of b (members ks others)) ≤ 32
  -- fewer than two accounts make no pair
  pub alone : count_ones others ≤ 1 → walk_each b ms ≡ plan b budget

module _ (b : Book) {ks ls ss : List ℕ} (budget : ℕ) (e : ks ≡ remaining b) (few : length ks ≤ 10) (l : ls ≡ map (units_on b Side.Long) ks) (s : ss ≡ map (units_on b Side.Short) ks) where
  pub tested : tests_made budget (length ls) ≡ tests b budget
  unfolding tests
  tested =
      let q : is_few b ≡ true = le-leb (length (remaining b)) 10 (rw e at few) in
      let n : length ls ≡ length (remaining b) = rw (l, length-map, e) refl in
      rw (q, n) refl

  pub groups_of : {ms : List ℕ} → ms ≡ choose (balanced_masks ls ss (tests_made budget (length ls))) 0 → {others : ℕ} → others ≡ rest (length ls) ms → GroupsOf b budget ks ms others
  unfolding chosen longs shorts plan
  groups_of {ms} c {others} o =
      let n : length ls ≡ length (remaining b) = rw (l, length-map, e) refl in
      let are : ms ≡ chosen b budget = c ∙ rw tested (rw (l, s, e) refl) in
      let others_walk = walk_of b (members ks others) in
      let walked : walk_each b ms ++ others_walk ≡ plan b budget = rw (o, n, are, e) refl in
      let below : others < 2 ^ length (remaining b) = rw (o, n) (omega (arith, pow_pos (length (remaining b)))) in
      let size : length (members ks others) ≡ count_ones others = rw e (members_size (remaining b) others below) in
      record {
        chosen_are = are;
        walked = walked;
        room = omega (arith, ap length walked, length-append (walk_each b ms) others_walk, plan_few b budget, rw e at few);
        alone = λ h. let none : others_walk ≡ [] = nil_from_length others_walk (omega (arith, walk_of_few b (members ks others), size)) in sym (append-nil (walk_each b ms)) ∙ (rw none at walked);
      }

-- ---- the walks

-- the groups from place i on are still to be walked; l are the pairs so far
pub record PlannedTo (b : Book) (ks ms : List ℕ) (i : ℕ) (l : List Pair) : Type 0 where
  pub accounts : ks ≡ remaining b
  pub few : length (walk_each b ms) ≤ 10
  pub same : l ++ walk_each b (drop i ms) ≡ walk_each b ms

pub none_planned : {b : Book} {ks ms : List ℕ} {l : List Pair} (budget : ℕ) → ks ≡ remaining b → length ks ≤ 10 → ms ≡ chosen b budget → l ≡ [] → PlannedTo b ks ms 0 l
unfolding plan
none_planned {b} budget e f g q = record {
  accounts = e;
  few = rw g (omega (arith, plan_few b budget, rw e at f, length-append (walk_each b (chosen b budget)) (walk_of b (members (remaining b) (rest (length (remaining b)) (chosen b budget))))));
  same = rw q refl;
}

module _ {b : Book} {ks ms : List ℕ} {i : ℕ} {l : List Pair} (s : PlannedTo b ks ms i l) where
  pub all_planned : length ms ≤ i → l ≡ walk_each b ms
  unfolding walk_each
  all_planned h = sym (append-nil l) ∙ (rw drop_of_length-le at s.same)

  module _ (h : i < length ms) where
    abbrev here : List Pair
    here = walk_of b (members ks (get_or ms i 0))

    left : drop i ms ≡ get_or ms i 0 ∷ drop (i + 1) ms
    left = rw add-one (drop-cons ms i 0 h)

    turned : l ++ (here ++ walk_each b (drop (i + 1) ms)) ≡ walk_each b ms
    unfolding walk_each
    turned = rw s.accounts (rw left at s.same)

    pub group_room : length l + length here ≤ 32
    group_room = omega (arith, s.few, ap length turned, length-append l (here ++ walk_each b (drop (i + 1) ms)), length-append here (walk_each b (drop (i + 1) ms)))

    pub one_planned : {r : List Pair} → r ≡ l ++ here → PlannedTo b ks ms (i + 1) r
    one_planned q = record { accounts = s.accounts; few = s.few; same = rw q (append_assoc l here (walk_each b (drop (i + 1) ms)) ∙ turned) }

-- ---- what stands

module _ (b : Book) {ks : List ℕ} (e : ks ≡ remaining b) where
  few_is : length ks ≤ 10 → is_few b ≡ true
  few_is h = le-leb (length (remaining b)) 10 (rw e at h)

  many_is : 10 < length ks → is_few b ≡ false
  many_is h = lt-leb (length (remaining b)) 10 (rw e at h)

  pub none_tested : (budget : ℕ) → 10 < length ks → 0 ≡ tests b budget
  unfolding tests
  none_tested budget h = rw (many_is h)

  -- the old passes' pairs
  module _ (ps : List Pair) (o : pair_all any_class ps b ≡ old_passes b) (budget : ℕ) where
    pub many_stand : 10 < length ks → pair_all any_class ps b ≡ later_passes b budget
    unfolding later_passes
    many_stand h = o ∙ rw (many_is h)

    old_count : made b (old_passes b) ≡ length ps
    old_count = omega (arith, pairs_made any_class ps b, ap (λ (z : Book). z.match_count) o)

    -- and the plan's
    module _ (few : length ks ≤ 10) {qs : List Pair} (p : qs ≡ plan b budget) where
      test_is : ltb (made b (planned b budget)) (made b (old_passes b)) ≡ ltb (length qs) (length ps)
      test_is = rw (plan_made b budget, old_count, p) refl

      pub plan_stands : length qs < length ps → pair_all any_class qs b ≡ later_passes b budget
      unfolding later_passes planned
      plan_stands h = rw (few_is few, test_is, lt-ltb (length qs) (length ps) h, p) refl

      pub old_stands : length ps ≤ length qs → pair_all any_class ps b ≡ later_passes b budget
      unfolding later_passes
      old_stands h = o ∙ rw (few_is few, test_is, le-ltb (length qs) (length ps) h)

pub plan_ends : {b : Book} → Core b → (budget : ℕ) {qs : List Pair} → qs ≡ plan b budget → All Ends qs
plan_ends {b} r budget p = rw p (all_map (Proper b.account_count) Ends (plan b budget) (λ q h. (omega (arith, h.buyer_there, r.accounts.few), omega (arith, h.seller_there, r.accounts.few))) (plan_fits b budget).proper)

pub core_ready : {b : Book} → Core b → Ready b
core_ready r = record { price_few = r.terms.price_few; day_few = r.terms.day_few; accounts_few = r.accounts.few; receipts_few = r.receipts.few }

module _ (b : Book) (budget : ℕ) where
  fewer : made b (later_passes b budget) ≤ made b (old_passes b)
  unfolding later_passes
  fewer =
      let p = made b (planned b budget) in
      let o = made b (old_passes b) in
      by_pick (λ (e : Book). made b e ≤ o) (is_few b && ltb p o) (λ t. omega (arith, ltb-true p o (and_right (is_few b) _ t))) (λ t. omega arith)

  module _ (ps : List Pair) (p : pair_all any_class ps b ≡ later_passes b budget) where
    pub later_count : length ps ≡ pairs b budget
    unfolding pairs
    later_count = omega (arith, pairs_made any_class ps b, ap (λ (z : Book). z.match_count) p)

    pub later_room : (old_passes b).match_count ≤ 256 → b.match_count + length ps ≤ 256
    unfolding pairs
    later_room h = omega (arith, later_count, fewer, h, (old_follows b).more, pairs_made any_class ps b, ap (λ (z : Book). z.match_count) p)
