-- The last round, holder by holder: the shares so far, and what those are left with. Assumes nothing.
use Rattle.std.specs.Prelude.{◌≡◌, refl, List, [], ◌∷◌, ◌++◌, map, ℕ, zero, suc, ◌+◌, ◌-◌, ◌≤◌, ◌<◌, ◌⊎◌, min, take, drop, set, length, get_or}
use Rattle.std.proofs.Common.{sym, ap, ◌∙◌, arith, append-nil, append_assoc, length-append}
use Rattle.std.proofs.lemmas.List.{drop_more, drop_all, take_all, take_more_set, drop-set-lt, drop-drop, length-set}
use mathlib.Core.Logic.{inl, inr}
use Rattle.std.specs.List.{refill}
use Rattle.factory.specs.Day.{Holder}
use Rattle.factory.proofs.laws.Rounds.{rounded, waits_rounded, served_rounded}
use Rattle.factory.proofs.laws.Levels.{at_level, still_waits, is_served}

-- a holder who has been given its share of what it had
abbrev pub left_with : ℕ → ℕ → Holder
left_with x share = record { left = x - share; share = share }

-- ---- a holder's turn

level_left : (r x : ℕ) → at_level r x ≡ left_with x (min r x)
level_left r x =
    let a : x - r ≡ x - min r x = omega arith in
    let b : min x r ≡ min r x = omega arith in
    rw (a, b) refl

-- one who waits gets a unit more than of the whole rounds
pub one_more : (r u x : ℕ) (hs : List Holder) → r < x → 0 < u → rounded u (at_level r x ∷ hs) ≡ left_with x (min r x + 1) ∷ rounded (u - 1) hs
one_more r zero x hs h g = absurd (omega arith)
one_more r (suc u) x hs h g =
    let a : x - r - 1 ≡ x - (min r x + 1) = omega arith in
    let b : min x r ≡ min r x = omega arith in
    let e : suc u - 1 ≡ u = omega arith in
    rw e (waits_rounded u (at_level r x) hs (still_waits r x h) ∙ rw (a, b) refl)

-- another gets none
pub no_more : (r u x : ℕ) (hs : List Holder) → (x ≤ r) ⊎ (u ≡ 0) → rounded u (at_level r x ∷ hs) ≡ left_with x (min r x) ∷ rounded u hs
unfolding rounded
no_more r u x hs (inl h) = served_rounded u (at_level r x) hs (is_served r x h) ∙ ap (λ k. k ∷ rounded u hs) (level_left r x)
no_more r u x hs (inr z) = rw z (ap (λ k. k ∷ hs) (level_left r x))

nobody_rounded : (u : ℕ) → rounded u [] ≡ []
unfolding rounded
nobody_rounded zero = refl
nobody_rounded (suc u) = refl

-- ---- the holders before place i have had their turns, and u units are left

pub record SharedTo (r : ℕ) (l : List ℕ) (hs : List Holder) (i u : ℕ) (left shares : List ℕ) : Type 0 where
  pub shares_so_far : shares ++ map (λ h. h.share) (rounded u (map (at_level r) (drop i l))) ≡ map (λ h. h.share) hs
  pub left_so_far : take i left ++ map (λ h. h.left) (rounded u (map (at_level r) (drop i l))) ≡ map (λ h. h.left) hs
  pub others : drop i left ≡ drop i l
  pub size : length left ≡ length l
  pub count : length shares ≡ i

pub none_shared : (r u : ℕ) (l : List ℕ) → SharedTo r l (rounded u (map (at_level r) l)) 0 u l []
none_shared r u l = record { shares_so_far = refl; left_so_far = refl; others = refl; size = refl; count = refl }

module _ {r : ℕ} {l : List ℕ} {hs : List Holder} {i u : ℕ} {left shares : List ℕ} (s : SharedTo r l hs i u left shares) where
  pub all_shared : length l ≤ i → (shares ≡ map (λ h. h.share) hs) × (left ≡ map (λ h. h.left) hs)
  all_shared h =
      let d : drop i l ≡ [] = drop_all i l h in
      let e : rounded u (map (at_level r) (drop i l)) ≡ [] = rw d (nobody_rounded u) in
      let a : shares ++ [] ≡ map (λ h. h.share) hs = rw e at s.shares_so_far in
      let b : take i left ++ [] ≡ map (λ h. h.left) hs = rw e at s.left_so_far in
      (rw append-nil at a, rw (append-nil, take_all i left (omega (arith, s.size))) at b)

  module _ (h : i < length l) where
    pub one_shared : (y v : ℕ) → rounded u (at_level r (get_or left i 0) ∷ map (at_level r) (drop (i + 1) l)) ≡ left_with (get_or left i 0) y ∷ rounded v (map (at_level r) (drop (i + 1) l))
        → SharedTo r l hs (i + 1) v (set left i (get_or left i 0 - y)) (shares ++ y ∷ [])
    one_shared y v e =
        let x = get_or left i 0 in
        let g : i < length left = omega (arith, s.size) in
        let d : drop (i + 1) left ≡ drop (i + 1) l = sym (drop-drop 1 i left) ∙ ap (λ k. drop 1 k) s.others ∙ drop-drop 1 i l in
        let c : drop i l ≡ x ∷ drop (i + 1) l = sym s.others ∙ drop_more left i 0 g ∙ ap (λ k. x ∷ k) d in
        let m : rounded u (map (at_level r) (drop i l)) ≡ left_with x y ∷ rounded v (map (at_level r) (drop (i + 1) l)) = rw c e in
        let a = s.shares_so_far in
        let b = s.left_so_far in
        record {
          shares_so_far = rw append_assoc (rw m at a);
          left_so_far = rw (take_more_set left i (x - y) g, append_assoc) (rw m at b);
          others = drop-set-lt (i + 1) left i (x - y) (omega arith) ∙ d;
          size = length-set left i (x - y) ∙ s.size;
          count = simp length-append (omega (arith, s.count));
        }

-- ---- a list put back where one as long stood

pub put_back : {A : Type 0} (xs ys : List A) → length ys ≡ length xs → refill (length xs) xs ys ≡ ys
put_back xs ys e = rw (drop_all (length ys) xs (omega arith), append-nil, take_all (length xs) ys (omega arith)) refl
