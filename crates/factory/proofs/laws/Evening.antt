-- The evening of a day, holder by holder and added up. Assumes nothing.
use Rattle.std.specs.Prelude.{◌≡◌, refl, true, List, [], ◌∷◌, map, ℕ, zero, suc, ◌+◌, ◌-◌, ◌*◌, ◌≤◌, min, length, get_or, sum}
use Rattle.std.proofs.Common.{ap, ◌∙◌, arith}
use Rattle.std.proofs.lemmas.List.{length-map}
use Rattle.std.proofs.Math.ListN.{get_or-map}
use Rattle.std.proofs.lemmas.List.Sums.{sum_by-cons}
use Rattle.std.proofs.lemmas.Bool.{ltb-true}
use Rattle.std.proofs.Math.Nat.{mul-suc}
use Rattle.factory.specs.Types.{Factory}
use Rattle.factory.specs.Day.{Holder, holder, waits, given, evening}
use Rattle.factory.specs.Rounds.{above, taken, AreWhole}
use Rattle.factory.proofs.Tests.{by_test, by_less}
use Rattle.factory.proofs.laws.Rounds.{rounded, rounded_length, count_waiting, none_count, counted, not_counted}
use Rattle.factory.proofs.laws.Levels.{at_level, above_more, above_same, evening_is, some_whole}

-- ---- a round, holder by holder

-- the holder at a place
abbrev pub at : List Holder → ℕ → Holder
at hs k = get_or hs k (holder 0)

-- what a holder has after r whole rounds
pub level_at : (r : ℕ) (l : List ℕ) (k : ℕ) → at (map (at_level r) l) k ≡ at_level r (get_or l k 0)
level_at r l k =
    let a : 0 - r ≡ 0 = omega arith in
    let b : min 0 r ≡ 0 = omega arith in
    let z : holder 0 ≡ at_level r 0 = rw (a, b) refl in
    ap (λ d. get_or (map (at_level r) l) k d) z ∙ get_or-map (at_level r) l k 0

-- a holder after a round, two ways: it has got nothing, or a unit if it waits
pub by_unit : (P : Holder → Type 0) (u : ℕ) (hs : List Holder) (k : ℕ) → P (at hs k) → (waits (at hs k) ≡ true → P (given (at hs k))) → P (at (rounded u hs) k)
unfolding rounded
by_unit P zero hs k p q = p
by_unit P (suc u) [] k p q = p
by_unit P (suc u) (h ∷ hs) zero p q = by_test (waits h) (λ w. rw w (q w)) (λ w. rw w p)
by_unit P (suc u) (h ∷ hs) (suc k) p q = by_test (waits h) (λ w. rw w (by_unit P u hs k p q)) (λ w. rw w (by_unit P (suc u) hs k p q))

at_most_one : (u : ℕ) (hs : List Holder) (k : ℕ) → (at (rounded u hs) k).share ≤ (at hs k).share + 1
at_most_one u hs k = by_unit (λ h. h.share ≤ (at hs k).share + 1) u hs k (omega arith) (λ w. omega arith)

-- no holder gets a unit in a round unless each who waits before it gets one
pub none_before : (u : ℕ) (hs : List Holder) (j k : ℕ) → j ≤ k → waits (at hs j) ≡ true → (at (rounded u hs) k).share + (at hs j).share ≤ (at (rounded u hs) j).share + (at hs k).share
unfolding rounded
none_before zero hs j k h w = omega arith
none_before (suc u) [] j k h w = omega arith
none_before (suc u) (x ∷ hs) zero zero h w = omega arith
none_before (suc u) (x ∷ hs) zero (suc k) h w = rw w (omega (arith, at_most_one u hs k))
none_before (suc u) (x ∷ hs) (suc j) zero h w = absurd (omega arith)
none_before (suc u) (x ∷ hs) (suc j) (suc k) h w =
    by_test (waits x)
    (λ v. rw v (none_before u hs j k (omega arith) w))
    (λ v. rw v (none_before (suc u) hs j k (omega arith) w))

-- ---- added up

abbrev pub shares : List Holder → ℕ
shares hs = sum (map (λ h. h.share) hs)

abbrev pub lefts : List Holder → ℕ
lefts hs = sum (map (λ h. h.left) hs)

pub sum_cons : (x : ℕ) (l : List ℕ) → sum (x ∷ l) ≡ x + sum l
sum_cons x l = sum_by-cons (λ x. x) x l

pub round_shares : (u : ℕ) (hs : List Holder) → shares (rounded u hs) ≡ shares hs + min u (count_waiting hs)
unfolding rounded
round_shares zero hs = omega arith
round_shares (suc u) [] = omega (arith, none_count)
round_shares (suc u) (h ∷ hs) =
    by_test (waits h)
    (λ w. rw w (omega (arith, counted h hs w, round_shares u hs, sum_cons (h.share + 1) (map (λ x. x.share) (rounded u hs)), sum_cons h.share (map (λ x. x.share) hs))))
    (λ w. rw w (omega (arith, not_counted h hs w, round_shares (suc u) hs, sum_cons h.share (map (λ x. x.share) (rounded (suc u) hs)), sum_cons h.share (map (λ x. x.share) hs))))

pub round_all : (u : ℕ) (hs : List Holder) → shares (rounded u hs) + lefts (rounded u hs) ≡ shares hs + lefts hs
unfolding rounded
round_all zero hs = refl
round_all (suc u) [] = refl
round_all (suc u) (h ∷ hs) =
    let a = sum_cons h.share (map (λ x. x.share) hs) in
    let b = sum_cons h.left (map (λ x. x.left) hs) in
    by_test (waits h)
    (λ w. rw w (omega (arith, a, b, ltb-true 0 h.left w, round_all u hs, sum_cons (h.share + 1) (map (λ x. x.share) (rounded u hs)), sum_cons (h.left - 1) (map (λ x. x.left) (rounded u hs)))))
    (λ w. rw w (omega (arith, a, b, round_all (suc u) hs, sum_cons h.share (map (λ x. x.share) (rounded (suc u) hs)), sum_cons h.left (map (λ x. x.left) (rounded (suc u) hs)))))

pub level_shares : (r : ℕ) (l : List ℕ) → shares (map (at_level r) l) ≡ taken r l
unfolding taken
level_shares r [] = refl
level_shares r (x ∷ l) = omega (arith, level_shares r l, sum_cons (min x r) (map (λ h. h.share) (map (at_level r) l)))

pub level_all : (r : ℕ) (l : List ℕ) → shares (map (at_level r) l) + lefts (map (at_level r) l) ≡ sum l
level_all r [] = refl
level_all r (x ∷ l) = omega (arith, level_all r l, sum_cons x l, sum_cons (min x r) (map (λ h. h.share) (map (at_level r) l)), sum_cons (x - r) (map (λ h. h.left) (map (at_level r) l)))

pub taken_most : (r : ℕ) (l : List ℕ) → taken r l ≤ r * length l
unfolding taken
taken_most r [] = omega arith
taken_most r (x ∷ l) = rw (mul-suc r (length l)) (omega (arith, taken_most r l))

pub taken_all : (r : ℕ) (l : List ℕ) → above r l ≡ 0 → taken r l ≡ sum l
unfolding taken
taken_all r [] h = refl
taken_all r (x ∷ l) h =
    by_less r x
    (λ g. absurd (omega (arith, above_more r x l g)))
    (λ g. omega (arith, taken_all r l (omega (arith, above_same r x l g)), sum_cons x l))

pub taken_few : (r : ℕ) (l : List ℕ) → taken r l ≤ sum l
unfolding taken
taken_few r [] = omega arith
taken_few r (x ∷ l) = omega (arith, taken_few r l, sum_cons x l)

pub nobody_above : (r : ℕ) (l : List ℕ) → above r l ≡ 0 → (k : ℕ) → get_or l k 0 ≤ r
nobody_above r [] h k = omega arith
nobody_above r (x ∷ l) h zero = by_less r x (λ g. absurd (omega (arith, above_more r x l g))) (λ g. g)
nobody_above r (x ∷ l) h (suc k) = by_less r x (λ g. absurd (omega (arith, above_more r x l g))) (λ g. nobody_above r l (omega (arith, above_same r x l g)) k)

-- ---- the evening

module _ (f : Factory) where
  whole : (r : ℕ) × (rest : ℕ) × AreWhole f.daily f.holders r rest
  whole = some_whole f.daily f.holders

  pub evening_all : shares (evening f) + lefts (evening f) ≡ sum f.holders
  unfolding evening
  evening_all = rw (evening_is f.daily f.holders whole.0 whole.1 whole.2) (round_all whole.1 (map (at_level whole.0) f.holders) ∙ level_all whole.0 f.holders)

  pub evening_length : length (evening f) ≡ length f.holders
  unfolding evening
  evening_length = rw (evening_is f.daily f.holders whole.0 whole.1 whole.2) (rounded_length whole.1 (map (at_level whole.0) f.holders) ∙ length-map f.holders (at_level whole.0))

  -- what a holder had in the morning is its share and what it has left
  pub evening_had : (k : ℕ) → (at (evening f) k).share + (at (evening f) k).left ≡ get_or f.holders k 0
  unfolding evening
  evening_had k =
      let x = get_or f.holders k 0 in
      let b = level_at whole.0 f.holders k in
      rw (evening_is f.daily f.holders whole.0 whole.1 whole.2)
      (by_unit (λ h. h.share + h.left ≡ x) whole.1 (map (at_level whole.0) f.holders) k
      (rw b (omega arith))
      (λ w. let v = ltb-true 0 (x - whole.0) (rw b at w) in rw b (omega arith)))
