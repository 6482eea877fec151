-- Groups of accounts: for every list of pairs there are n less its length groups of n accounts, no account in two, such that each group buys and
-- sells alike. Each pair joins at most two groups. By induction on the pairs. Assumes nothing.
use Rattle.std.specs.Prelude.{◌≡◌, refl, ◌⊎◌, Bool, true, false, not, List, [], ◌∷◌, ℕ, zero, suc, ◌+◌, ◌*◌, ◌^◌, ◌≤◌, ◌<◌, eqb, length, bit_and, bit_or}
use Rattle.std.proofs.Common.{sym, ap, ◌∙◌, inl, inr, arith, eqb-true}
use Rattle.std.proofs.Math.Nat.{one-mul}
use Rattle.std.specs.Int.Bits.{and_shifted}
use Rattle.std.proofs.lemmas.Nat.{pow_pos, and_comm, or_lt, or_disjoint}
use Rattle.std.proofs.lemmas.Bool.{eqb-false, not-true, not-false}
use Rattle.book.specs.Types.{Pair}
use Rattle.book.specs.Counting.{All}
use Rattle.book.specs.Masks.{members, added}
use Rattle.book.specs.FewestPairs.{Disjoint, Upward, units_for, bought, sold}
use Rattle.book.proofs.laws.Counting.{by_eq, only, only_here, only_else}
use Rattle.book.proofs.laws.Walking.{all_map}
use Rattle.book.proofs.laws.Masks.{Balanced, over, over_plus, over_or, over_rest, apart_or}
use Rattle.book.proofs.laws.Choosing.{all_both, Out, take_out}

-- ---- one account

-- an account that is below all of a list is not in it
over_below : (i : ℕ) (ks : List ℕ) → All (λ k. i < k) ks → over (only i 1) ks ≡ 0
unfolding added
over_below i [] h = refl
over_below i (k ∷ ks) h = omega (arith, only_else i 1 k (omega (arith, h.0)), over_below i ks h.1)

-- and else in it once
pub over_once : (i : ℕ) (ks : List ℕ) → Upward ks → over (only i 1) ks ≤ 1
unfolding added
over_once i [] u = omega arith
over_once i (k ∷ ks) u = by_eq k i
    (λ e. rw e (omega (arith, only_here i 1, over_below i ks (rw e at u.0))))
    (λ d. omega (arith, only_else i 1 k d, over_once i ks u.1))

-- u units of an account
over_units : (i u : ℕ) (l : List ℕ) → over (only i u) l ≡ over (only i 1) l * u
unfolding added
over_units i u [] = omega arith
over_units i u (k ∷ l) = by_eq k i
    (λ e. rw (e, only_here i u, only_here i 1) (omega (arith, over_units i u l)))
    (λ d. rw (only_else i 1 k d, only_else i u k d) (omega (arith, over_units i u l)))

-- ---- each account by itself

singles : ℕ → List ℕ
singles zero = []
singles (suc n) = 2 ^ n ∷ singles n

singles_few : (n : ℕ) → All (λ m. (0 < m) × (m < 2 ^ n)) (singles n)
unfolding singles
singles_few zero = tt
singles_few (suc n) = ((pow_pos n, omega (arith, pow_pos n)), all_map _ _ (singles n) (λ m h. (h.0, omega (arith, h.1))) (singles_few n))

singles_apart : (n : ℕ) → Disjoint (singles n)
unfolding singles
singles_apart zero = tt
singles_apart (suc n) = (all_map _ _ (singles n) (λ m h. rw (one-mul (2 ^ n)) at (and_shifted 1 n m h.1)) (singles_few n), singles_apart n)

singles_length : (n : ℕ) → length (singles n) ≡ n
unfolding singles
singles_length zero = refl
singles_length (suc n) = ap suc (singles_length n)

-- ---- groups

module _ (ks : List ℕ) where
  -- of its accounts the pairs buy as much as they sell
  abbrev Group : List Pair → ℕ → Type 0
  Group ps m = Balanced ks (λ k. bought k ps) (λ k. sold k ps) m

  pub record Groups (ps : List Pair) : Type 0 where
    pub masks : List ℕ
    pub apart : Disjoint masks
    pub groups : All (Group ps) masks
    pub many : length ks ≤ length masks + length ps

  -- one pair more
  module _ (up : Upward ks) (p : Pair) (ps : List Pair) where
    -- how often an account is in a mask
    abbrev hit : ℕ → ℕ → ℕ
    hit i m = over (only i 1) (members ks m)

    hit_once : (i m : ℕ) → m < 2 ^ length ks → hit i m ≤ 1
    hit_once i m h = omega (arith, over_rest (only i 1) ks m h, over_once i ks up)

    units_more : (end : Pair → ℕ) (m : ℕ) → over (λ k. units_for end k (p ∷ ps)) (members ks m) ≡ hit (end p) m * p.units + over (λ k. units_for end k ps) (members ks m)
    unfolding units_for
    units_more end m = omega (arith, over_plus (only (end p) p.units) (λ k. units_for end k ps) (members ks m), over_units (end p) p.units (members ks m))

    -- a mask that has both ends of the pair, or neither
    group_more : (m : ℕ) → hit p.buyer m ≡ hit p.seller m → Group ps m → Group (p ∷ ps) m
    group_more m e g = record { some = g.some; few = g.few; even = units_more (λ q. q.buyer) m ∙ rw (e, g.even) (sym (units_more (λ q. q.seller) m)) }

    -- a mask that has one end only
    abbrev cut : ℕ → Bool
    cut m = not (eqb (hit p.buyer m) (hit p.seller m))

    -- masks none of which has one end only
    all_more : (l : List ℕ) → All (λ g. Group ps g × (cut g ≡ false)) l → All (Group (p ∷ ps)) l
    all_more l h = all_map _ _ l (λ g k. group_more g (eqb-true _ _ (not-false _ k.1)) k.0) h

    -- two that have one end only, joined: they have both, and any other that is apart has neither
    module _ (x y : ℕ) (e : bit_and x y ≡ 0) (c : cut x ≡ true) (d : cut y ≡ true) (g : Group ps x) (h : Group ps y) where
      few_both : bit_or x y < 2 ^ length ks
      few_both = or_lt (length ks) x y g.few h.few

      hit_both : (hit p.buyer (bit_or x y) ≡ 1) × (hit p.seller (bit_or x y) ≡ 1)
      hit_both =
          let a = over_or (only p.buyer 1) ks x y e in
          let b = over_or (only p.seller 1) ks x y e in
          let q = eqb-false (hit p.buyer x) (hit p.seller x) (not-true _ c) in
          let r = eqb-false (hit p.buyer y) (hit p.seller y) (not-true _ d) in
          omega (arith, hit_once p.buyer (bit_or x y) few_both, hit_once p.seller (bit_or x y) few_both)

      group_both : Group (p ∷ ps) (bit_or x y)
      group_both = group_more (bit_or x y) (omega (arith, hit_both))
          (record {
            some = omega (arith, or_disjoint x y e, g.some);
            few = few_both;
            even = omega (arith, over_or (λ k. bought k ps) ks x y e, over_or (λ k. sold k ps) ks x y e, g.even, h.even);
          })

      group_other : (m : ℕ) → bit_and (bit_or x y) m ≡ 0 → Group ps m → Group (p ∷ ps) m
      group_other m a k =
          let few = or_lt (length ks) (bit_or x y) m few_both k.few in
          let none : (i : ℕ) → hit i (bit_or x y) ≡ 1 → hit i m ≡ 0 = λ i q. omega (arith, over_or (only i 1) ks (bit_or x y) m a, hit_once i (bit_or (bit_or x y) m) few) in
          group_more m (none p.buyer hit_both.0 ∙ sym (none p.seller hit_both.1)) k

    groups_more : Groups ps → Groups (p ∷ ps)
    groups_more r = go (take_out cut (Group ps) r.masks r.apart r.groups)
      where
        go : All (λ g. Group ps g × (cut g ≡ false)) r.masks ⊎ Out cut (Group ps) r.masks → Groups (p ∷ ps)
        go (inl n) = record { masks = r.masks; apart = r.apart; groups = all_more r.masks n; many = omega (arith, r.many) }
        go (inr o) = on (take_out cut _ o.others o.apart.1 (all_both _ _ o.others o.kept.1 o.apart.0))
          where
            x : ℕ
            x = o.one

            on : All (λ g. (Group ps g × (bit_and x g ≡ 0)) × (cut g ≡ false)) o.others ⊎ Out cut (λ g. Group ps g × (bit_and x g ≡ 0)) o.others → Groups (p ∷ ps)
            on (inl n) = record { masks = o.others; apart = o.apart.1; groups = all_more o.others (all_map _ _ o.others (λ g h. (h.0.0, h.1)) n); many = omega (arith, r.many, o.count) }
            on (inr t) =
                let y = t.one in
                let e = t.kept.0.1 in
                let apart : All (λ m. Group ps m × (bit_and (bit_or x y) m ≡ 0)) t.others =
                all_map _ _ t.others (λ m h. (h.0.0, and_comm (bit_or x y) m ∙ apart_or m x y (and_comm m x ∙ h.0.1) (and_comm m y ∙ h.1))) (all_both _ _ t.others t.kept.1 t.apart.0) in
                record {
                  masks = bit_or x y ∷ t.others;
                  apart = (all_map _ _ t.others (λ m h. h.1) apart, t.apart.1);
                  groups = (group_both x y e o.found t.found o.kept.0 t.kept.0.0, all_map _ _ t.others (λ m h. group_other x y e o.found t.found o.kept.0 t.kept.0.0 m h.1 h.0) apart);
                  many = omega (arith, r.many, o.count, t.count);
                }

  pub grouped : Upward ks → (ps : List Pair) → Groups ps
  unfolding units_for
  grouped up [] = record {
    masks = singles (length ks);
    apart = singles_apart (length ks);
    groups = all_map _ _ (singles (length ks)) (λ m h. record { some = h.0; few = h.1; even = refl }) (singles_few (length ks));
    many = omega (arith, singles_length (length ks));
  }
  grouped up (p ∷ ps) = groups_more up p ps (grouped up ps)
