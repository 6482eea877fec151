-- The choice, by a table of the choices by each set of accounts that may be taken: one mask more is put into one list after the other, and the
-- list with the mask taken, which is read, is still as it was. Assumes nothing.
use Rattle.std.specs.Prelude.{◌≡◌, refl, ◌≢◌, ◌⊎◌, List, [], ◌∷◌, ◌++◌, ℕ, suc, ◌+◌, ◌-◌, ◌*◌, ◌/◌, ◌%◌, ◌^◌, ◌≤◌, ◌<◌, ltb, length, get_or, set, replicate, bit_and, bit_or, count_ones}
use Rattle.std.proofs.Common.{sym, ap, inl, inr, ◌∙◌, arith, append-nil, append_assoc, length-set, ne_eqb, eq-eqb, eqb-true}
use Rattle.std.proofs.Math.Arith.{bin_ind}
use Rattle.std.specs.Int.Bits.{and_self, and_step, or_step, or_zero_l}
use Rattle.std.specs.Int.Count.{ones, ones_step}
use Rattle.std.proofs.lemmas.Nat.{pow_pos, or_lt, or_disjoint, ones-le, ones_le_self, and_comm, and_le_l, and-not}
use Rattle.std.proofs.lemmas.List.{nil_from_length, get_or_default, get_or-replicate, get_or-set_same, get_or-set_other}
use Rattle.std.proofs.lemmas.Nat.Bits.{same_from_bits, bit_at_and}
use Rattle.std.proofs.lemmas.Bool.{cases_lt}
use Rattle.book.specs.Counting.{All}
use Rattle.book.specs.Masks.{disjoint, longer, choose}
use Rattle.book.proofs.laws.Counting.{by_pick, by_eq}
use Rattle.book.proofs.laws.Masks.{or_apart}
use Rattle.masks.specs.Asked.{IsGroup, HasRoom, with_mask, Adds}
use Rattle.masks.proofs.Lowest.{by_parity}
use Rattle.masks.proofs.Testing.{masks_few}

-- accounts that are taken, and the members of a mask
pub both_there : (n m u : ℕ) → m < 2 ^ n → u < 2 ^ n → bit_or m u < 2 ^ n
both_there n m u = or_lt n m u

-- masks with no account in common: the ones add up
ones_or : (m u : ℕ) → bit_and m u ≡ 0 → ones (bit_or m u) ≡ ones m + ones u
ones_or = bin_ind (λ m. (u : ℕ) → bit_and m u ≡ 0 → ones (bit_or m u) ≡ ones m + ones u) (λ u e. rw (or_zero_l u) (omega (arith, ones-le 0 0 (omega arith)))) step
  where
    step : (m : ℕ) → ((u : ℕ) → bit_and (m / 2) u ≡ 0 → ones (bit_or (m / 2) u) ≡ ones (m / 2) + ones u) → (u : ℕ) → bit_and m u ≡ 0 → ones (bit_or m u) ≡ ones m + ones u
    step m ih u e =
        let h : bit_and (m / 2) (u / 2) ≡ 0 = omega (arith, and_step m u) in
        let k : bit_or m u / 2 ≡ bit_or (m / 2) (u / 2) = omega (arith, or_step m u) in
        omega (arith, ih (u / 2) h, ap ones k, ones_step m, ones_step u, ones_step (bit_or m u), or_step m u, and_step m u)

-- of the sets of some accounts c the next below s is that of s - 1
next_below : (c s u : ℕ) → bit_and c s ≡ s → bit_and c u ≡ u → u < s → u ≤ bit_and (s - 1) c
next_below = bin_ind (λ c. (s u : ℕ) → bit_and c s ≡ s → bit_and c u ≡ u → u < s → u ≤ bit_and (s - 1) c) (λ s u h g l. absurd (omega arith)) step
  where
    step : (c : ℕ) → ((s u : ℕ) → bit_and (c / 2) s ≡ s → bit_and (c / 2) u ≡ u → u < s → u ≤ bit_and (s - 1) (c / 2)) → (s u : ℕ) → bit_and c s ≡ s → bit_and c u ≡ u → u < s → u ≤ bit_and (s - 1) c
    step c ih s u h g l =
        let a = and_step c s in
        let b = and_step c u in
        let e = and_step (s - 1) c in
        by_parity s
        (λ p.
        let q : (s - 1) / 2 ≡ s / 2 - 1 = omega arith in
        let r : (s - 1) % 2 ≡ 1 = omega arith in
        omega (arith, rw (q, r) at e, ih (s / 2) (u / 2) (omega arith) (omega arith) (omega arith)))
        (λ p.
        let q : (s - 1) / 2 ≡ s / 2 = omega arith in
        omega (arith, rw q at e, and_comm (s / 2) (c / 2)))

and_below : (a c : ℕ) → bit_and c (bit_and a c) ≡ bit_and a c
and_below a c = same_from_bits _ _ (λ i. omega (arith, bit_at_and c (bit_and a c) i, bit_at_and a c i))

-- mask m is put into the lists by sets above `used`, which it does not meet
pub record AddsAbove (n m used : ℕ) (t r : List (List ℕ)) : Type 0 where
  pub size : length r ≡ 1024
  pub few : 2 ^ n ≤ 1024
  pub there : used < 2 ^ n
  pub apart : bit_and m used ≡ 0
  pub above : (u : ℕ) → used < u → u < 2 ^ n → get_or r u [] ≡ with_mask m t u
  pub below : (u : ℕ) → u ≤ used → get_or r u [] ≡ get_or t u []

-- the sets that a mask does not meet are those of the other accounts
apart_of : (n m u : ℕ) → m < 2 ^ n → u < 2 ^ n → bit_and m u ≡ 0 → bit_and (2 ^ n - 1 - m) u ≡ u
apart_of n m u h g e = omega (arith, and-not n m u h g)

of_apart : (n m u : ℕ) → m < 2 ^ n → u < 2 ^ n → bit_and (2 ^ n - 1 - m) u ≡ u → bit_and m u ≡ 0
of_apart n m u h g e = omega (arith, and-not n m u h g)

-- a set that it meets keeps its list
met : (m : ℕ) (t : List (List ℕ)) (u : ℕ) → (bit_and m u ≡ 0 → ⊥) → with_mask m t u ≡ get_or t u []
met m t u d = rw (ne_eqb (bit_and m u) 0 d) refl

-- the greatest of these sets has all other accounts
pub none_added : {n m c : ℕ} {t : List (List ℕ)} → n ≤ 10 → IsGroup n m → c ≡ 2 ^ n - 1 - m → length t ≡ 1024 → AddsAbove n m c t t
none_added {n} {m} {c} {t} f g e s = record {
  size = s;
  few = masks_few n f;
  there = omega (arith, g.few);
  apart = of_apart n m c g.few (omega (arith, g.few)) (rw e (and_self (2 ^ n - 1 - m)));
  above = λ u l h. sym (met m t u (λ d. omega (arith, ap (λ (x : ℕ). bit_and x u) e, apart_of n m u g.few h d, and_le_l (2 ^ n - 1 - m) u)));
  below = λ u l. refl;
}

module _ {n m used : ℕ} {t x : List (List ℕ)} (s : AddsAbove n m used t x) (g : IsGroup n m) (d : List ℕ) where
  both_above : used < bit_or m used
  both_above = omega (arith, or_disjoint m used s.apart, g.two, ones_le_self m)

  both_was : get_or x (bit_or m used) d ≡ get_or t (bit_or m used) []
  both_was =
      let h = both_there n m used g.few s.there in
      get_or_default x (bit_or m used) d [] (omega (arith, s.size, s.few, h)) ∙ s.above (bit_or m used) both_above h
      ∙ met m t (bit_or m used) (λ e. omega (arith, (or_apart m m used e).0, and_self m, g.two, ones_le_self m))

  -- with the mask taken there is room for it in front
  pub room : HasRoom n t → length (get_or x (bit_or m used) d) < 5
  room w = rw both_was (omega (arith, w.each (bit_or m used) (both_there n m used g.few s.there), ones_or m used s.apart, g.two))

  module _ {b : List ℕ} (f : List ℕ) {r : List (List ℕ)} (q : b ≡ longer (m ∷ get_or x (bit_or m used) d) (get_or x used f)) (k : r ≡ set x used b) where
    here : get_or r used [] ≡ with_mask m t used
    here = rw k (get_or-set_same x used b [] (omega (arith, s.size, s.few, s.there)) ∙ rw (q, both_was, get_or_default x used f [] (omega (arith, s.size, s.few, s.there)), s.below used (omega arith), eq-eqb (bit_and m used) 0 s.apart) refl)

    other : (u : ℕ) → u ≢ used → get_or r u [] ≡ get_or x u []
    other u h = rw k (get_or-set_other x used u b [] h)

    size : length r ≡ 1024
    size = rw (k, length-set) s.size

    -- from `used` on all are done
    from : (u : ℕ) → used ≤ u → u < 2 ^ n → get_or r u [] ≡ with_mask m t u
    from u l h = by_eq u used (λ e. rw e here) (λ e. other u e ∙ s.above u (omega arith) h)

    pub all_added : used ≡ 0 → Adds n m t r
    all_added e = record { size = size; each = λ u h. from u (omega arith) h }

    pub one_added : {c : ℕ} → (used ≡ 0 → ⊥) → c ≡ 2 ^ n - 1 - m → AddsAbove n m (bit_and (used - 1) c) t r
    one_added {c} z e =
        let l : bit_and (used - 1) c ≤ used - 1 = and_le_l (used - 1) c in
        let some : 0 < used = by_eq used 0 (λ q. absurd (z q)) (λ d. omega arith) in
        record {
          size = size;
          few = s.few;
          there = omega (arith, l, s.there);
          apart = rw e (of_apart n m (bit_and (used - 1) (2 ^ n - 1 - m)) g.few (omega (arith, and_le_l (used - 1) (2 ^ n - 1 - m), s.there)) (and_below (used - 1) (2 ^ n - 1 - m)));
          above = λ u h w. go u h w (cases_lt u used);
          below = λ u h. other u (λ q. omega (arith, l, some)) ∙ s.below u (omega (arith, l));
        }
      where
        go : (u : ℕ) → bit_and (used - 1) c < u → u < 2 ^ n → (u < used) ⊎ (used ≤ u) → get_or r u [] ≡ with_mask m t u
        go u h w (inl b) =
            other u (λ q. omega arith) ∙ s.below u (omega arith)
            ∙ sym (met m t u (λ q. omega (arith, ap (λ (y : ℕ). bit_and (used - 1) y) e, next_below (2 ^ n - 1 - m) used u (apart_of n m used g.few s.there s.apart) (apart_of n m u g.few w q) b)))
        go u h w (inr b) = from u b w

-- ---- the loop over the masks, from the last

-- the masks `left` are still to be put in, and for all accounts u that may be taken the table has the choice among those behind them
pub record Tabled (n : ℕ) (masks left : List ℕ) (t : List (List ℕ)) : Type 0 where
  pub done : List ℕ
  pub split : masks ≡ left ++ done
  pub few : n ≤ 10
  pub groups : All (IsGroup n) masks
  pub size : length t ≡ 1024
  pub each : (u : ℕ) → u < 2 ^ n → get_or t u [] ≡ choose done u

all_back : {A : Type 0} (P : A → Type 0) (l r : List A) → All P (l ++ r) → All P r
all_back P [] r h = h
all_back P (x ∷ l) r h = all_back P l r h.1

-- the groups that are chosen, of two accounts each, and the accounts that are taken are ten at most
chosen_few : (n : ℕ) (ms : List ℕ) (u : ℕ) → n ≤ 10 → All (IsGroup n) ms → u < 2 ^ n → 2 * length (choose ms u) + count_ones u ≤ 10
unfolding choose
chosen_few n [] u f g h = omega (arith, ones-le n u h)
chosen_few n (m ∷ ms) u f g h =
    let q : 2 * length (choose ms u) + count_ones u ≤ 10 = chosen_few n ms u f g.1 h in
    by_pick (λ (l : List ℕ). 2 * length l + count_ones u ≤ 10) (disjoint m u)
    (λ e. by_pick (λ (l : List ℕ). 2 * length l + count_ones u ≤ 10) (ltb (suc (length (choose ms (bit_or m u)))) (length (choose ms u)))
    (λ l. q)
    (λ l. omega (arith, g.0.two, ones_or m u (eqb-true _ _ e), chosen_few n ms (bit_or m u) f g.1 (both_there n m u g.0.few h))))
    (λ e. q)

-- of no masks none is chosen
pub none_chosen : (ms : List ℕ) → length ms ≡ 0 → choose ms 0 ≡ []
unfolding choose
none_chosen ms e = let n : ms ≡ [] = nil_from_length ms e in rw n refl

pub none_tabled : {n : ℕ} {masks left : List ℕ} {t : List (List ℕ)} → n ≤ 10 → left ≡ masks → All (IsGroup n) masks → t ≡ replicate 1024 [] → Tabled n masks left t
unfolding choose
none_tabled {n} {masks} {left} f e g q = rw q (record { done = []; split = sym e ∙ sym (append-nil left); few = f; groups = g; size = refl; each = λ u h. get_or-replicate 1024 u [] [] (omega (arith, masks_few n f)) })

module _ {n : ℕ} {masks left : List ℕ} {t : List (List ℕ)} (s : Tabled n masks left t) where
  pub has_room : HasRoom n t
  has_room = record { each = λ u h. rw (s.each u h) (chosen_few n s.done u s.few (all_back (IsGroup n) left s.done (rw s.split at s.groups)) h) }

  pub all_tabled : length left ≡ 0 → (d : List ℕ) → get_or t 0 d ≡ choose masks 0
  all_tabled e d = go left e s.split
    where
      go : (l : List ℕ) → length l ≡ 0 → masks ≡ l ++ s.done → get_or t 0 d ≡ choose masks 0
      go [] z q = rw q (get_or_default t 0 d [] (omega (arith, s.size)) ∙ s.each 0 (pow_pos n))
      go (x ∷ l) z q = absurd (omega arith)

  module _ (q : List ℕ) (m : ℕ) (e : left ≡ q ++ m ∷ []) where
    split_more : masks ≡ q ++ m ∷ s.done
    split_more = s.split ∙ rw (e, append_assoc) refl

    pub this_group : IsGroup n m
    this_group = (all_back (IsGroup n) q (m ∷ s.done) (rw split_more at s.groups)).0

    pub one_tabled : {r : List (List ℕ)} → Adds n m t r → Tabled n masks q r
    unfolding choose
    one_tabled a = record {
      done = m ∷ s.done;
      split = split_more;
      few = s.few;
      groups = s.groups;
      size = a.size;
      each = λ u h. a.each u h ∙ rw (s.each (bit_or m u) (both_there n m u this_group.few h), s.each u h) refl;
    }
