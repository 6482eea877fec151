-- A round of a day: a unit to each who waits, from the first holder on, while there are units. Units that go round one at a time go by such rounds. Assumes nothing.
use Rattle.std.specs.Prelude.{◌≡◌, refl, true, false, cond, List, [], ◌∷◌, ◌++◌, ℕ, zero, suc, ◌+◌, ◌-◌, ◌<◌, ◌⊎◌, drop, length, get_or, Option, Some, None}
use Rattle.std.specs.List.{position_from}
use Rattle.std.proofs.Common.{sym, ◌∙◌, arith, length-append, append-nil, append_assoc}
use Rattle.std.proofs.lemmas.List.{get_or_at, set_at, drop_at, drop_all, length-set}
use Rattle.std.proofs.Math.Seq.{drop-append-add}
use Rattle.std.specs.Option.{option_or}
use mathlib.Core.Logic.{inl, inr}
use Rattle.factory.proofs.Tests.{by_test}
use Rattle.factory.specs.Day.{Holder, holder, waits, next_waiting, given, give, dispatched}

-- the holders after a round with so many units
unfoldable pub rounded : ℕ → List Holder → List Holder
rounded zero hs = hs
rounded (suc u) [] = []
rounded (suc u) (h ∷ hs) = cond (waits h) (given h ∷ rounded u hs) (h ∷ rounded (suc u) hs)

pub waits_rounded : (u : ℕ) (h : Holder) (hs : List Holder) → waits h ≡ true → rounded (suc u) (h ∷ hs) ≡ given h ∷ rounded u hs
unfolding rounded
waits_rounded u h hs w = rw w refl

pub served_rounded : (u : ℕ) (h : Holder) (hs : List Holder) → waits h ≡ false → rounded u (h ∷ hs) ≡ h ∷ rounded u hs
unfolding rounded
served_rounded zero h hs w = refl
served_rounded (suc u) h hs w = rw w refl

-- how many wait
unfoldable pub count_waiting : List Holder → ℕ
count_waiting [] = 0
count_waiting (h ∷ hs) = cond (waits h) 1 0 + count_waiting hs

-- ---- the next unit

-- it goes to who waits next
gets : (u p k : ℕ) (l : List Holder) → next_waiting p l ≡ Some k → dispatched (suc u) p l ≡ dispatched u (k + 1) (give k l)
unfolding dispatched
gets u p k l e = rw e refl

-- where it goes from another place on as well, so do all
same_next : (u p q : ℕ) (l : List Holder) → next_waiting p l ≡ next_waiting q l → dispatched u p l ≡ dispatched u q l
unfolding dispatched
same_next zero p q l e = refl
same_next (suc u) p q l e = rw e refl

or_same : (o : Option ℕ) → option_or o o ≡ o
or_same None = refl
or_same (Some k) = refl

-- behind the last holder it is the first's turn
behind_last : (l : List Holder) → next_waiting (length l) l ≡ next_waiting 0 l
unfolding next_waiting
behind_last l = rw (drop_all (length l) l (omega arith)) (sym (or_same _))

back_to_first : (u : ℕ) (l : List Holder) → dispatched u (length l) l ≡ dispatched u 0 l
back_to_first u l = same_next u (length l) 0 l (behind_last l)

-- ---- a holder's turn, in a list of those before it, it and those behind it

module _ (before : List Holder) (h : Holder) (behind l : List Holder) (p : ℕ) (e : l ≡ before ++ h ∷ behind) (q : p ≡ length before) where
  waits_there : waits h ≡ true → next_waiting p l ≡ Some p
  unfolding next_waiting
  waits_there w = rw (e, drop_at before (h ∷ behind) p (sym q), w) refl

  served_there : waits h ≡ false → next_waiting p l ≡ next_waiting (p + 1) l
  unfolding next_waiting
  served_there w =
      let a : drop (p + 1) (before ++ h ∷ behind) ≡ behind = rw q (drop-append-add before (h ∷ behind) 1) in
      rw (e, drop_at before (h ∷ behind) p (sym q), w, a) refl

  gives_there : give p l ≡ before ++ given h ∷ behind
  gives_there = rw (e, get_or_at before h behind (holder 0) p (sym q), set_at before h behind (given h) p (sym q)) refl

-- ---- the turns of those behind a place

pub none_count : count_waiting [] ≡ 0
unfolding count_waiting
none_count = refl

-- one who waits counts one
pub counted : (h : Holder) (hs : List Holder) → waits h ≡ true → count_waiting (h ∷ hs) ≡ 1 + count_waiting hs
unfolding count_waiting
counted h hs w = rw w refl

pub not_counted : (h : Holder) (hs : List Holder) → waits h ≡ false → count_waiting (h ∷ hs) ≡ count_waiting hs
unfolding count_waiting
not_counted h hs w = rw w (omega arith)

after_one : (before : List Holder) (h : Holder) (p : ℕ) → p ≡ length before → p + 1 ≡ length (before ++ h ∷ [])
after_one before h p q = simp length-append (omega arith)

passes : (behind before l : List Holder) (u p : ℕ) → l ≡ before ++ behind → p ≡ length before → dispatched u p l ≡ dispatched (u - count_waiting behind) (length l) (before ++ rounded u behind)
unfolding dispatched rounded
passes behind before l zero p e q = let z : 0 - count_waiting behind ≡ 0 = omega arith in rw (z, e) refl
passes [] before l (suc u) p e q =
    let z : suc u - count_waiting [] ≡ suc u = rw none_count (omega arith) in
    let b : p ≡ length l = rw (e, append-nil) q in
    rw (← e, b, z) refl
passes (h ∷ behind) before l (suc u) p e q =
    by_test (waits h)
    (λ w.
    let c : suc u - count_waiting (h ∷ behind) ≡ u - count_waiting behind = omega (arith, counted h behind w) in
    gets u p p l (waits_there before h behind l p e q w)
    ∙ passes behind (before ++ given h ∷ []) (give p l) u (p + 1) (gives_there before h behind l p e q ∙ sym (append_assoc before (given h ∷ []) behind)) (after_one before (given h) p q)
    ∙ rw (w, c, length-set l p (given (get_or l p (holder 0))), append_assoc before (given h ∷ []) (rounded u behind)) refl)
    (λ w.
    let c : count_waiting (h ∷ behind) ≡ count_waiting behind = not_counted h behind w in
    same_next (suc u) p (p + 1) l (served_there before h behind l p e q w)
    ∙ passes behind (before ++ h ∷ []) l (suc u) (p + 1) (e ∙ sym (append_assoc before (h ∷ []) behind)) (after_one before h p q)
    ∙ rw (w, c, append_assoc before (h ∷ []) (rounded (suc u) behind)) refl)

pub rounded_length : (u : ℕ) (hs : List Holder) → length (rounded u hs) ≡ length hs
unfolding rounded
rounded_length zero hs = refl
rounded_length (suc u) [] = refl
rounded_length (suc u) (h ∷ hs) = by_test (waits h) (λ w. rw (w, rounded_length u hs) refl) (λ w. rw (w, rounded_length (suc u) hs) refl)

-- units that go round one at a time are a round, and then those that it leaves
pub one_round : (u : ℕ) (hs : List Holder) → dispatched u 0 hs ≡ dispatched (u - count_waiting hs) 0 (rounded u hs)
one_round u hs =
    passes hs [] hs u 0 refl refl
    ∙ rw (← rounded_length u hs) (back_to_first (u - count_waiting hs) (rounded u hs))

-- ---- the last round

-- where nobody waits, there is no next unit and a round gives none
no_next : (hs : List Holder) → count_waiting hs ≡ 0 → (i : ℕ) → position_from waits i hs ≡ None
no_next [] z i = refl
no_next (h ∷ hs) z i =
    by_test (waits h)
    (λ w. absurd (omega (arith, counted h hs w)))
    (λ w. rw w (no_next hs (omega (arith, not_counted h hs w)) (i + 1)))

none_rounded : (hs : List Holder) → count_waiting hs ≡ 0 → (u : ℕ) → rounded u hs ≡ hs
unfolding rounded
none_rounded hs z zero = refl
none_rounded [] z (suc u) = refl
none_rounded (h ∷ hs) z (suc u) =
    by_test (waits h)
    (λ w. absurd (omega (arith, counted h hs w)))
    (λ w. rw (w, none_rounded hs (omega (arith, not_counted h hs w)) (suc u)) refl)

-- it leaves no units, or nobody waits
pub last_round : (u : ℕ) (hs : List Holder) → (u < count_waiting hs) ⊎ (count_waiting hs ≡ 0) → dispatched u 0 hs ≡ rounded u hs
unfolding dispatched next_waiting
last_round u hs (inl h) = let z : u - count_waiting hs ≡ 0 = omega arith in one_round u hs ∙ rw z refl
last_round zero hs (inr z) = sym (none_rounded hs z zero)
last_round (suc u) hs (inr z) = rw (no_next hs z 0, none_rounded hs z (suc u)) refl
