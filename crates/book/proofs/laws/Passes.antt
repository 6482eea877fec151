-- The passes of Close, with the plan or the old ones after the first: whatever every proper pairing keeps, they keep, and they make at most 125
-- matches. A plan is a list of pairs for which the book has the units. By induction on the pairs. Assumes nothing.
use Rattle.std.specs.Prelude.{◌≡◌, refl, Bool, ◌&&◌, List, [], ◌∷◌, ◌++◌, map, ℕ, zero, suc, ◌+◌, ◌-◌, ◌≤◌, ◌<◌, min, ltb, length}
use Rattle.std.specs.List.{filter}
use Rattle.std.proofs.Common.{◌∙◌, inl, arith, ltb-true}
use Rattle.book.specs.Types.{Book, Listed, Pair}
use Rattle.book.specs.Counting.{All}
use Rattle.book.specs.Rows.{any_class, bonded_only, long_units, short_units}
use Rattle.book.specs.Tables.{account_at}
use Rattle.book.specs.Masks.{members}
use Rattle.book.specs.Pairing.{pair}
use Rattle.book.specs.Closing.{use_up, walk, with_units, is_buyer, is_seller, first_pass, remaining, is_few, chosen, walk_of, walk_each, plan, planned, old_passes, made, later_passes, all_passes, pair_all}
use Rattle.book.specs.FewestPairs.{units_for, bought, sold}
use Rattle.book.specs.Demand3.{units_long, units_short}
use Rattle.book.proofs.laws.Counting.{by_pick, and_right, only_here}
use Rattle.book.proofs.laws.Sound.{Core}
use Rattle.book.proofs.laws.Pairing.{Pairable, pairable, pair_core, paired_accounts, paired_matches, paired_long, paired_short}
use Rattle.book.proofs.laws.Walking.{all_map, all_of, use_up_all, Member, Passed}
use Rattle.book.proofs.laws.Closing.{Over, busy, Firsted, first_walk, old_keep}
use Rattle.book.proofs.laws.Masks.{members_all}
use Rattle.book.proofs.laws.Plans.{filter_all}
use Rattle.book.proofs.laws.Fewest.{remaining_all, plan_most, plan_empties, plan_made}

-- ---- a list of pairs for which a book has the units

-- a pair of two of n accounts, for some units
pub record Proper (n : ℕ) (p : Pair) : Type 0 where
  pub buyer_there : p.buyer < n
  pub seller_there : p.seller < n
  pub some : 0 < p.units

pub record Fits (b : Book) (ps : List Pair) : Type 0 where
  pub proper : All (Proper b.account_count) ps
  pub long : (k : ℕ) → k < b.account_count → bought k ps ≤ long_units (account_at b k)
  pub short : (k : ℕ) → k < b.account_count → sold k ps ≤ short_units (account_at b k)

-- what the pairs leave of each account's units
pub record Left (b : Book) (ps : List Pair) (e : Book) : Type 0 where
  pub long : (k : ℕ) → k < b.account_count → long_units (account_at e k) + bought k ps ≡ long_units (account_at b k)
  pub short : (k : ℕ) → k < b.account_count → short_units (account_at e k) + sold k ps ≡ short_units (account_at b k)

module _ (P : Book → Type 0) (keep : (b : Book) (c : Bool) (x y u : ℕ) → Core b → Pairable b x y u → P b → P (pair b c 1 x y u)) where
  pub pairs_keep : (c : Bool) (ps : List Pair) (b : Book) → Core b → Fits b ps → b.match_count + length ps ≤ 256 → P b
      → Passed (λ e. P e × Left b ps e) b.account_count b.match_count (b.match_count + length ps) (pair_all c ps b)
  unfolding pair_all units_for
  pairs_keep c [] b r f m h =
      record { core = r; kept = (h, record { long = λ k l. omega arith; short = λ k l. omega arith }); accounts = refl; low_count = omega arith; high_count = omega arith }
  pairs_keep c (p ∷ ps) b r f m h =
      let i = p.buyer in
      let j = p.seller in
      let u = p.units in
      let x = f.proper.0 in
      let g : Pairable b i j u = pairable b i j u x.buyer_there x.seller_there x.some (omega (arith, f.long i x.buyer_there, only_here i u)) (omega (arith, f.short j x.seller_there, only_here j u)) (omega arith) in
      let q = pair_core b c 1 i j u (omega arith) g r in
      let n = paired_accounts q in
      let ih = pairs_keep c ps (pair b c 1 i j u) q.core
      (record {
        proper = rw n f.proper.1;
        long = λ k l. omega (arith, f.long k (omega arith), paired_long g q r k);
        short = λ k l. omega (arith, f.short k (omega arith), paired_short g q r k);
      })
      (omega (arith, paired_matches q)) (keep b c i j u r g h) in
      record {
        core = ih.core;
        kept = (
          ih.kept.0,
          record {
            long = λ k l. omega (arith, f.long k l, paired_long g q r k, ih.kept.1.long k (omega arith));
            short = λ k l. omega (arith, f.short k l, paired_short g q r k, ih.kept.1.short k (omega arith));
          },
        );
        accounts = ih.accounts ∙ n;
        low_count = omega (arith, ih.low_count, paired_matches q);
        high_count = omega (arith, ih.high_count, paired_matches q);
      }

-- ---- the pairs of a walk

pub all_append : {A : Type 0} (P : A → Type 0) (l m : List A) → All P l → All P m → All P (l ++ m)
all_append P [] m h g = g
all_append P (x ∷ l) m h g = (h.0, all_append P l m h.1 g)

-- what holds of the fronts' pair at each turn of a walk holds of each of its pairs
module _ (P : Listed → Type 0) (R : Pair → Type 0) (fronts : (x y : Listed) → P x → P y → R (record { buyer = x.account; seller = y.account; units = min x.left y.left }))
    (less : (x : Listed) (u : ℕ) → P x → 0 < x.left - u → P (record { account = x.account; left = x.left - u; day = x.day })) where
  pub walk_pairs : (k : ℕ) (xs ys : List Listed) → All P xs → All P ys → All R (walk k xs ys)
  unfolding walk
  walk_pairs zero xs ys h g = tt
  walk_pairs (suc k) [] ys h g = tt
  walk_pairs (suc k) (x ∷ xs) [] h g = tt
  walk_pairs (suc k) (x ∷ xs) (y ∷ ys) h g =
      let u = min x.left y.left in
      (fronts x y h.0 g.0, walk_pairs k (use_up u x xs) (use_up u y ys) (use_up_all u x xs P (less x u h.0) h.1) (use_up_all u y ys P (less y u g.0) g.1))

module _ (b : Book) where
  -- one of the accounts, with units
  abbrev Having : ℕ → Type 0
  Having k = (k < b.account_count) × (0 < (account_at b k).units)

  walk_of_proper : (l : List ℕ) → All Having l → All (Proper b.account_count) (walk_of b l)
  unfolding walk_of
  walk_of_proper l h =
      walk_pairs (Member b.account_count) (Proper b.account_count)
      (λ x y h g. record { buyer_there = h.there; seller_there = g.there; some = omega (arith, h.some, g.some) }) (λ x u h s. record { there = h.there; some = s })
      _ _ _ (side (is_buyer b)) (side (is_seller b))
    where
      side : (p : ℕ → Bool) → All (Member b.account_count) (map (with_units b) (filter p l))
      side p = all_of (Member b.account_count) (with_units b) (filter p l) (all_map Having _ (filter p l) (λ k x. record { there = x.0; some = x.1 }) (filter_all Having p l h))

  each_proper : (ms : List ℕ) → All (Proper b.account_count) (walk_each b ms)
  unfolding walk_each
  each_proper [] = tt
  each_proper (m ∷ ms) = all_append _ (walk_of b (members (remaining b) m)) (walk_each b ms) (walk_of_proper _ (members_all Having (remaining b) m (remaining_all b))) (each_proper ms)

  -- the plan's pairs are ones for which the book has the units
  pub plan_fits : (budget : ℕ) → Fits b (plan b budget)
  unfolding plan
  plan_fits budget = record {
    proper = all_append _ (walk_each b (chosen b budget)) _ (each_proper (chosen b budget)) (walk_of_proper _ (members_all Having (remaining b) _ (remaining_all b)));
    long = λ k h. (plan_most b budget k h).0;
    short = λ k h. (plan_most b budget k h).1;
  }

-- ---- the passes

pub first_keep : (P : Book → Type 0) → ((b : Book) (c : Bool) (x y u : ℕ) → Core b → Pairable b x y u → P b → P (pair b c 1 x y u)) → (b : Book) → b.match_count ≤ 64 → Core b → P b → Firsted P b (first_pass b)
first_keep P keep b m r h = first_walk (λ xs ys e. P e) P (λ x y xs ys e s p g. keep e bonded_only x.account y.account (min x.left y.left) s p g) (λ ys e s g. g) (λ xs e s g. g) b m r (λ q. h) (λ q. h)

module _ (P : Book → Type 0) (keep : (b : Book) (c : Bool) (x y u : ℕ) → Core b → Pairable b x y u → P b → P (pair b c 1 x y u)) where
  -- the plan or the old passes, after a first one from m matches; with as many units long as short they leave none on a side
  pub later_keep : (m : ℕ) (b : Book) (budget : ℕ) → m ≤ 64 → b.match_count ≤ m + 125 → b.match_count + busy b ≤ m + 126 → Core b → P b
      → Passed (λ e. P e × (units_long b ≡ units_short b → Over e)) b.account_count b.match_count (m + 125) (later_passes b budget)
  unfolding later_passes planned
  later_keep m b budget h g f r q =
      let o = old_keep P keep (m + 125) b (omega arith) g (omega arith) r q in
      let ps = plan b budget in
      let p = made b (planned b budget) in
      let n = b.account_count in
      by_pick (Passed (λ e. P e × (units_long b ≡ units_short b → Over e)) n b.match_count (m + 125)) (is_few b && ltb p (made b (old_passes b)))
      (λ t.
      let fewer : length ps < made b (old_passes b) = omega (arith, plan_made b budget, ltb-true p (made b (old_passes b)) (and_right (is_few b) _ t)) in
      let w = pairs_keep P keep any_class ps b r (plan_fits b budget) (omega (arith, o.high_count)) q in
      record {
        core = w.core;
        kept = (w.kept.0, λ level. inl (λ k h. let i : k < n = omega (arith, w.accounts) in omega (arith, w.kept.1.long k i, (plan_empties b budget level).long k i)));
        accounts = w.accounts;
        low_count = w.low_count;
        high_count = omega (arith, w.high_count, o.high_count);
      })
      (λ t. record { core = o.core; kept = (o.kept.0, λ level. o.kept.1); accounts = o.accounts; low_count = o.low_count; high_count = o.high_count })

  -- "Close can now make up to 125 matches"
  pub passes_keep : (b : Book) (budget : ℕ) → b.match_count ≤ 64 → Core b → P b → Passed P b.account_count b.match_count (b.match_count + 125) (all_passes b budget)
  unfolding all_passes
  passes_keep b budget m r h =
      let f = first_keep P keep b m r h in
      let t = later_keep b.match_count (first_pass b) budget m f.high_count f.kept.1 f.core f.kept.0 in
      record { core = t.core; kept = t.kept.0; accounts = t.accounts ∙ f.accounts; low_count = omega (arith, t.low_count, f.low_count); high_count = t.high_count }
