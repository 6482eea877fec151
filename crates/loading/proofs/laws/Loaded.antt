-- What a loading gives, by every text and over every former table, as document 02's Job 10 has it: laws of `load`, by the rules of a heat table. Assumes nothing.
use Rattle.std.specs.Prelude.{◌≡◌, refl, Bool, true, false, not, List, ℕ, zero, suc, ◌+◌, ◌-◌, ◌*◌, ◌≤◌, ◌<◌, length, get_or}
use Rattle.std.proofs.Common.{zero-add, sym, ap, arith, eqb-true, eq-eqb}
use mathlib.Core.Bool.{true≢false}
use Rattle.std.proofs.lemmas.Bool.{or_parts, or_from, not-false}
use Rattle.std.proofs.lemmas.Bool.Decides.{nat_tests}
use Rattle.heats.specs.Each.{each_at, length_each}
use Rattle.heats.specs.HeatTables.{IsHeatTable, entry_of}
use Rattle.book.specs.Outcomes.{Answer}
use Rattle.book.specs.Answers.{is_accepted}
use Rattle.book.proofs.laws.Counting.{by_eq, by_pick}
use Rattle.loading.specs.Loading.{number_at, entries, breaks, any, is_bad, Loading, load}

-- ---- the rules of an entry

module _ (l : List ℕ) (e : ℕ) where
  pub keeps_rules : 1 ≤ entry_of l e → entry_of l e ≤ 5_400_000_000 → (4_301 ≤ e → entry_of l (e - 1) ≤ entry_of l e) → breaks l e ≡ false
  keeps_rules a b h = grind (arith, nat_tests)

  pub within_rules : breaks l e ≡ false → (1 ≤ entry_of l e) × (entry_of l e ≤ 5_400_000_000) × (4_301 ≤ e → entry_of l (e - 1) ≤ entry_of l e)
  within_rules k = (grind (arith, nat_tests), grind (arith, nat_tests), λ h. grind (arith, nat_tests))

-- ---- one of the heats

module _ (p : ℕ → Bool) where
  pub any_more : (n : ℕ) → any n p ≡ false → p (4_300 + n) ≡ false → any (suc n) p ≡ false
  unfolding any
  any_more n h k = or_from _ _ h k

  pub any_all : (n e : ℕ) → any n p ≡ false → 4_300 ≤ e → e < 4_300 + n → p e ≡ false
  unfolding any
  any_all zero e h l u = absurd (omega arith)
  any_all (suc n) e h l u =
      let w = or_parts (any n p) (p (4_300 + n)) h in
      by_eq e (4_300 + n) (λ q. rw q w.1) (λ q. any_all n e w.0 l (omega arith))

  any_none : (n : ℕ) → ((e : ℕ) → 4_300 ≤ e → e < 4_300 + n → p e ≡ false) → any n p ≡ false
  unfolding any
  any_none zero h = refl
  any_none (suc n) h = or_from _ _ (any_none n (λ e l u. h e l (omega arith))) (h (4_300 + n) (omega arith) (omega arith))

-- ---- the entries

pub length_entries : (s : List ℕ) → length (entries s) ≡ 1_701
unfolding entries
length_entries s = length_each _ 1_701 0

pub entry_at : (s : List ℕ) (k : ℕ) → k < 1_701 → get_or (entries s) k 0 ≡ number_at s (8 * k + 8)
unfolding entries
entry_at s k h = rw (each_at (λ i. number_at s (8 * i + 8)) 1_701 0 k h, zero-add)

pub entry_is : (s : List ℕ) (k : ℕ) → k < 1_701 → entry_of (entries s) (4_300 + k) ≡ number_at s (8 * k + 8)
entry_is s k h = let e : 4_300 + k - 4_300 ≡ k = omega arith in rw e (entry_at s k h)

-- ---- a table of which no entry breaks the rules

module _ (l : List ℕ) where
  pub rules_kept : length l ≡ 1_701 → any 1_701 (breaks l) ≡ false → IsHeatTable l
  rules_kept n h = record { size = n; some = λ e a b. (within e a b).0; few = λ e a b. (within e a b).1; rising = λ e a b. (within e (omega arith) b).2 a }
    where
      within : (e : ℕ) → 4_300 ≤ e → e ≤ 6_000 → (1 ≤ entry_of l e) × (entry_of l e ≤ 5_400_000_000) × (4_301 ≤ e → entry_of l (e - 1) ≤ entry_of l e)
      within e a b = within_rules l e (any_all (breaks l) 1_701 e h a (omega arith))

  none_breaks : IsHeatTable l → any 1_701 (breaks l) ≡ false
  none_breaks t = any_none (breaks l) 1_701 (λ e a u. keeps_rules l e (t.some e a (omega arith)) (t.few e a (omega arith)) (λ h. t.rising e h (omega arith)))

-- ---- what is taken, and what is not

module _ (s : List ℕ) where
  -- a table of which the count, the length and the entries keep the rules
  pub good : length s ≡ 13_616 → number_at s 0 ≡ 1_701 → any 1_701 (breaks (entries s)) ≡ false → is_bad s ≡ false
  unfolding is_bad
  good n m h = or_from _ _ (or_from _ _ (ap not (eq-eqb _ _ n)) (ap not (eq-eqb _ _ m))) h

  rules_of : is_bad s ≡ false → (length s ≡ 13_616) × (number_at s 0 ≡ 1_701) × (any 1_701 (breaks (entries s)) ≡ false)
  unfolding is_bad
  rules_of e =
      let w = or_parts _ _ e in
      let v = or_parts _ _ w.0 in
      (eqb-true _ _ (not-false _ v.0), eqb-true _ _ (not-false _ v.1), w.1)

  pub bad : (length s ≡ 13_616 → number_at s 0 ≡ 1_701 → any 1_701 (breaks (entries s)) ≡ false → ⊥) → is_bad s ≡ true
  bad h = go (is_bad s) refl
    where
      go : (t : Bool) → is_bad s ≡ t → is_bad s ≡ true
      go true e = e
      go false e = let w = rules_of e in absurd (h w.0 w.1 w.2)

  module _ (former : List ℕ) where
    -- "31 when the count, the length or an entry breaks these rules", "and the former table is retained"
    pub kept : is_bad s ≡ true → load s former ≡ record { answer = Answer.Refused 31; heats = former }
    unfolding load
    kept e = rw e refl

    pub accepted : is_bad s ≡ false → load s former ≡ record { answer = Answer.Accepted 0; heats = entries s }
    unfolding load
    accepted e = rw e refl

    -- every table that keeps the rules is taken, and the answer carries 0
    pub taken : length s ≡ 13_616 → number_at s 0 ≡ 1_701 → IsHeatTable (entries s) → load s former ≡ record { answer = Answer.Accepted 0; heats = entries s }
    taken n m t = accepted (good n m (none_breaks (entries s) t))

    -- any other is refused, and the former table is retained
    pub refused : (length s ≡ 13_616 → number_at s 0 ≡ 1_701 → IsHeatTable (entries s) → ⊥) → load s former ≡ record { answer = Answer.Refused 31; heats = former }
    refused h = kept (bad (λ n m k. h n m (rules_kept (entries s) (length_entries s) k)))

    -- what is taken keeps the rules
    pub only : is_accepted (load s former).answer ≡ true → (length s ≡ 13_616) × (number_at s 0 ≡ 1_701) × IsHeatTable (entries s)
    unfolding load
    only =
        by_pick (λ (r : Loading). is_accepted r.answer ≡ true → (length s ≡ 13_616) × (number_at s 0 ≡ 1_701) × IsHeatTable (entries s)) (is_bad s)
        (λ e a. absurd (true≢false (sym a)))
        (λ e a. let w = rules_of e in (w.0, w.1, rules_kept (entries s) (length_entries s) w.2))

    -- the table in force after a loading is a heat table, where it was one before
    pub loaded : IsHeatTable former → IsHeatTable (load s former).heats
    unfolding load
    loaded t = by_pick (λ (r : Loading). IsHeatTable r.heats) (is_bad s) (λ e. t) (λ e. rules_kept (entries s) (length_entries s) (rules_of e).2)
