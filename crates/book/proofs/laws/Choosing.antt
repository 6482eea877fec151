-- The choice among masks: it gives masks of the list, rising and pairwise disjoint, as many as can be, and of such lists the first. By induction on
-- the list. Assumes nothing.
use Rattle.std.specs.Prelude.{◌≡◌, refl, ◌≢◌, ◌⊎◌, Bool, true, false, List, [], ◌∷◌, ℕ, suc, ◌≤◌, ◌<◌, ltb, eqb, length, bit_and, bit_or}
use Rattle.std.proofs.Common.{sym, ap, ◌∙◌, inl, inr, arith, ltb-true, ltb-false, eqb-true}
use Rattle.std.specs.Int.Bits.{and_self}
use Rattle.std.proofs.lemmas.Nat.{and_comm}
use Rattle.std.proofs.lemmas.Bool.{eqb-false}
use Rattle.book.specs.Counting.{All}
use Rattle.book.specs.Masks.{disjoint, choose}
use Rattle.book.specs.FewestPairs.{In, Disjoint, Upward, First}
use Rattle.book.proofs.laws.Counting.{by_pick, by_eq}
use Rattle.book.proofs.laws.Walking.{all_map}
use Rattle.book.proofs.laws.Masks.{apart_or, or_apart}

-- ---- lists of masks

second : {A B : Type 0} → A ⊎ B → (A → ⊥) → B
second (inl a) n = absurd (n a)
second (inr b) n = b

pub all_both : {A : Type 0} (P Q : A → Type 0) (l : List A) → All P l → All Q l → All (λ x. P x × Q x) l
all_both P Q [] h g = tt
all_both P Q (x ∷ l) h g = ((h.0, g.0), all_both P Q l h.1 g.1)

-- one mask of a list at which a test holds, and the others
pub record Out (t : ℕ → Bool) (P : ℕ → Type 0) (gs : List ℕ) : Type 0 where
  pub one : ℕ
  pub others : List ℕ
  pub found : t one ≡ true
  pub count : length gs ≡ suc (length others)
  pub apart : Disjoint (one ∷ others)
  pub kept : All P (one ∷ others)

-- none, or one and the others
pub take_out : (t : ℕ → Bool) (P : ℕ → Type 0) (gs : List ℕ) → Disjoint gs → All P gs → All (λ g. P g × (t g ≡ false)) gs ⊎ Out t P gs
take_out t P [] d h = inl tt
take_out t P (g ∷ gs) d h = go (t g) refl (take_out t (λ x. P x × (bit_and g x ≡ 0)) gs d.1 (all_both P _ gs h.1 d.0))
  where
    go : (s : Bool) → t g ≡ s → All (λ x. (P x × (bit_and g x ≡ 0)) × (t x ≡ false)) gs ⊎ Out t (λ x. P x × (bit_and g x ≡ 0)) gs → All (λ x. P x × (t x ≡ false)) (g ∷ gs) ⊎ Out t P (g ∷ gs)
    go true e r = inr (record { one = g; others = gs; found = e; count = refl; apart = d; kept = h })
    go false e (inl n) = inl ((h.0, e), all_map _ _ gs (λ x p. (p.0.0, p.1)) n)
    go false e (inr o) = inr (record {
      one = o.one;
      others = g ∷ o.others;
      found = o.found;
      count = ap suc o.count;
      apart = ((and_comm o.one g ∙ o.kept.0.1, o.apart.0), (all_map _ _ o.others (λ x p. p.1) o.kept.1, o.apart.1));
      kept = (o.kept.0.0, (h.0, all_map _ _ o.others (λ x p. p.0) o.kept.1));
    })

-- ---- the choice

-- the list that is chosen: with m, or without it
module _ (m : ℕ) (ms : List ℕ) (used : ℕ) where
  abbrev with_it : List ℕ
  with_it = m ∷ choose ms (bit_or m used)

  abbrev without : List ℕ
  without = choose ms used

  choose_cases : (Q : List ℕ → Type 0) → (bit_and m used ≡ 0 → length without ≤ length with_it → Q with_it) → ((bit_and m used ≡ 0 → length with_it < length without) → Q without) → Q (choose (m ∷ ms) used)
  unfolding choose
  choose_cases Q h g = by_pick Q (disjoint m used)
      (λ e. by_pick Q (ltb (length with_it) (length without)) (λ q. g (λ d. ltb-true (length with_it) (length without) q)) (λ q. h (eqb-true _ _ e) (ltb-false (length with_it) (length without) q)))
      (λ e. g (λ d. absurd (eqb-false (bit_and m used) 0 e d)))

-- its masks are of the list
pub choose_all : (P : ℕ → Type 0) (ms : List ℕ) (used : ℕ) → All P ms → All P (choose ms used)
unfolding choose
choose_all P [] used h = tt
choose_all P (m ∷ ms) used h = choose_cases m ms used (All P) (λ e q. (h.0, choose_all P ms (bit_or m used) h.1)) (λ q. choose_all P ms used h.1)

-- they are apart from what is used, and from each other
pub choose_apart : (ms : List ℕ) (used : ℕ) → All (λ m. bit_and m used ≡ 0) (choose ms used)
unfolding choose
choose_apart [] used = tt
choose_apart (m ∷ ms) used = choose_cases m ms used (All (λ g. bit_and g used ≡ 0))
    (λ e q. (e, all_map _ _ (choose ms (bit_or m used)) (λ g p. (or_apart g m used p).1) (choose_apart ms (bit_or m used))))
    (λ q. choose_apart ms used)

pub choose_disjoint : (ms : List ℕ) (used : ℕ) → Disjoint (choose ms used)
unfolding choose
choose_disjoint [] used = tt
choose_disjoint (m ∷ ms) used = choose_cases m ms used Disjoint
    (λ e q. (all_map _ _ (choose ms (bit_or m used)) (λ g p. and_comm m g ∙ (or_apart g m used p).0) (choose_apart ms (bit_or m used)), choose_disjoint ms (bit_or m used)))
    (λ q. choose_disjoint ms used)

-- "each list rising"
pub choose_upward : (ms : List ℕ) (used : ℕ) → Upward ms → Upward (choose ms used)
unfolding choose
choose_upward [] used h = tt
choose_upward (m ∷ ms) used h = choose_cases m ms used Upward
    (λ e q. (choose_all (λ g. m < g) ms (bit_or m used) h.0, choose_upward ms (bit_or m used) h.1))
    (λ q. choose_upward ms used h.1)

-- masks of a list, apart from what is used
abbrev pub Usable : List ℕ → ℕ → List ℕ → Type 0
Usable ms used gs = All (λ g. In g ms × (bit_and g used ≡ 0)) gs

-- masks without m, or with m taken
module _ (m : ℕ) (ms gs : List ℕ) (used : ℕ) where
  usable_without : Usable (m ∷ ms) used gs → All (λ g. g ≢ m) gs → Usable ms used gs
  usable_without h n = all_map _ _ gs (λ g p. (second p.0.0 p.1, p.0.1)) (all_both _ _ gs h n)

  usable_with : Usable (m ∷ ms) used gs → All (λ g. bit_and m g ≡ 0) gs → 0 < m → Usable ms (bit_or m used) gs
  usable_with h a s = all_map _ _ gs
      (λ g p. (second p.0.0 (λ q. omega (arith, sym (and_self m) ∙ ap (bit_and m) (sym q) ∙ p.1)), apart_or g m used (and_comm g m ∙ p.1) p.0.1)) (all_both _ _ gs h a)

-- "as many disjoint ones as can be"
pub choose_most : (ms gs : List ℕ) (used : ℕ) → All (λ m. 0 < m) ms → Disjoint gs → Usable ms used gs → length gs ≤ length (choose ms used)
choose_most [] [] used s d h = omega arith
choose_most [] (g ∷ gs) used s d h = absurd h.0.0
choose_most (m ∷ ms) gs used s d h =
    go (take_out (eqb m) _ gs d h) (λ k. choose_most ms gs used s.1 d k) (λ hs e k. choose_most ms hs (bit_or m used) s.1 e k)
  where
    go : All (λ g. (In g (m ∷ ms) × (bit_and g used ≡ 0)) × (eqb m g ≡ false)) gs ⊎ Out (eqb m) (λ g. In g (m ∷ ms) × (bit_and g used ≡ 0)) gs
        → (Usable ms used gs → length gs ≤ length (choose ms used)) → ((hs : List ℕ) → Disjoint hs → Usable ms (bit_or m used) hs → length hs ≤ length (choose ms (bit_or m used)))
        → length gs ≤ length (choose (m ∷ ms) used)
    go (inl n) without with_it =
        let k = without (usable_without m ms gs used h (all_map _ _ gs (λ g p q. eqb-false m g p.1 (sym q)) n)) in
        choose_cases m ms used (λ (l : List ℕ). length gs ≤ length l) (λ e q. omega arith) (λ q. k)
    go (inr o) without with_it =
        let e : m ≡ o.one = eqb-true m o.one o.found in
        let a : bit_and m used ≡ 0 = rw e o.kept.0.1 in
        let k = with_it o.others o.apart.1 (usable_with m ms o.others used o.kept.1 (rw e o.apart.0) s.0) in
        choose_cases m ms used (λ (l : List ℕ). length gs ≤ length l) (λ d q. omega (arith, o.count)) (λ q. omega (arith, o.count, q a))

first_none : (l : List ℕ) → 0 ≡ length l → First l []
first_none [] e = tt
first_none (x ∷ l) e = absurd (omega arith)

in_all : (P : ℕ → Type 0) (g : ℕ) (ms : List ℕ) → In g ms → All P ms → P g
in_all P g [] i h = absurd i
in_all P g (m ∷ ms) (inl e) h = rw e h.0
in_all P g (m ∷ ms) (inr i) h = in_all P g ms i h.1

-- "on a tie the list of masks, each list rising, that comes first number by number"
pub choose_first : (ms gs : List ℕ) (used : ℕ) → All (λ m. 0 < m) ms → Upward ms → Disjoint gs → Upward gs → Usable ms used gs → length gs ≡ length (choose ms used) → First (choose ms used) gs
choose_first ms [] used s u d v h = first_none (choose ms used)
choose_first [] (g ∷ gs) used s u d v h = absurd h.0.0
choose_first (m ∷ ms) (g ∷ gs) used s u d v h =
    by_eq g m
    (λ e.
    let k = usable_with m ms gs used h.1 (rw (sym e) d.0) s.0 in
    let most = choose_most ms gs (bit_or m used) s.1 d.1 k in
    choose_cases m ms used (λ (l : List ℕ). length (g ∷ gs) ≡ length l → First l (g ∷ gs))
    (λ a q c. inr (sym e, choose_first ms gs (bit_or m used) s.1 u.1 d.1 v.1 k (omega arith)))
    (λ q c. absurd (omega (arith, q (rw (sym e) h.0.1)))))
    (λ e.
    let above : m < g = in_all (λ x. m < x) g ms (second h.0.0 e) u.0 in
    choose_cases m ms used (λ (l : List ℕ). length (g ∷ gs) ≡ length l → First l (g ∷ gs))
    (λ a q c. inl above)
    (λ q c. choose_first ms (g ∷ gs) used s.1 u.1 d v (usable_without m ms (g ∷ gs) used h (e, all_map _ _ gs (λ x p. omega arith) v.0)) c))
