-- The entries of a table's text, read one after another: what is known of them on the way. Assumes nothing.
use Rattle.std.specs.Prelude.{◌≡◌, refl, true, false, List, ℕ, ◌+◌, ◌-◌, ◌*◌, ◌≤◌, ◌<◌, length, get_or, set}
use Rattle.std.proofs.Common.{sym, ◌∙◌, subst, add-one, arith, get_or-set_same, get_or-set_other, length-set, below_more}
use Rattle.std.proofs.lemmas.List.{ext_get_or}
use Rattle.heats.specs.HeatTables.{entry_of}
use Rattle.book.proofs.laws.Counting.{by_eq}
use Rattle.loading.specs.Loading.{number_at, entries, breaks, any, is_bad}
use Rattle.loading.proofs.laws.Loaded.{keeps_rules, within_rules, any_more, any_all, length_entries, entry_at, entry_is, bad}

-- of the 1,701 entries those below i stand in l, and none of them breaks the rules; before is the last of them, and 1 where there is none
pub record Read (s : List ℕ) (i : ℕ) (l : List ℕ) (before : ℕ) : Type 0 where
  pub within : i ≤ 1_701
  pub size : length l ≡ 1_701
  pub same : (k : ℕ) → k < i → get_or l k 0 ≡ number_at s (8 * k + 8)
  pub fine : any i (breaks (entries s)) ≡ false
  pub some : 1 ≤ before
  pub first : i ≡ 0 → before ≡ 1
  pub last : 0 < i → before ≡ entry_of (entries s) (4_300 + i - 1)

pub none_read : (s l : List ℕ) → length l ≡ 1_701 → Read s 0 l 1
unfolding any
none_read s l n = record {
  within = omega arith;
  size = n;
  same = λ k u. absurd (omega arith);
  fine = refl;
  some = omega arith;
  first = λ e. refl;
  last = λ u. absurd (omega arith);
}

module _ {s : List ℕ} {i : ℕ} {l : List ℕ} {before : ℕ} (r : Read s i l before) where
  -- the next entry keeps the rules where it is neither below the one before nor above 5,400,000,000
  keeps_next : before ≤ entry_of (entries s) (4_300 + i) → entry_of (entries s) (4_300 + i) ≤ 5_400_000_000 → breaks (entries s) (4_300 + i) ≡ false
  keeps_next a b = keeps_rules (entries s) (4_300 + i) (omega (arith, r.some)) b (λ h. omega (arith, r.last (omega arith)))

  pub one_read : (x : ℕ) → i < 1_701 → x ≡ number_at s (8 * i + 8) → before ≤ x → x ≤ 5_400_000_000 → Read s (i + 1) (set l i x) x
  one_read x u e a b =
      let n : i < length l = omega (arith, r.size) in
      let is : entry_of (entries s) (4_300 + i) ≡ x = entry_is s i u ∙ sym e in
      record {
        within = omega arith;
        size = length-set l i x ∙ r.size;
        same = below_more _ _ (λ k h. get_or-set_other l i k x 0 (omega arith) ∙ r.same k h) (get_or-set_same l i x 0 n ∙ e);
        fine = rw add-one (any_more (breaks (entries s)) i r.fine (keeps_next (omega arith) (omega arith)));
        some = omega (arith, r.some);
        first = λ h. absurd (omega arith);
        last = λ h. let n : 4_300 + (i + 1) - 1 ≡ 4_300 + i = omega arith in rw n (sym is);
      }

  module _ (x : ℕ) (u : i < 1_701) (e : x ≡ number_at s (8 * i + 8)) where
    broken : (breaks (entries s) (4_300 + i) ≡ false → ⊥) → is_bad s ≡ true
    broken h = bad s (λ n m k. h (any_all (breaks (entries s)) 1_701 (4_300 + i) k (omega arith) (omega arith)))

    -- it breaks them where it is below the one before, the first below 1
    pub below_before : x < before → is_bad s ≡ true
    below_before a =
        broken (λ h.
        let w = within_rules (entries s) (4_300 + i) h in
        by_eq i 0 (λ q. omega (arith, entry_is s i u, w.0, r.first q)) (λ q. omega (arith, entry_is s i u, w.2 (omega arith), r.last (omega arith))))

    -- or above 5,400,000,000
    pub above_most : 5_400_000_000 < x → is_bad s ≡ true
    above_most a = broken (λ h. omega (arith, entry_is s i u, (within_rules (entries s) (4_300 + i) h).1))

  -- all of them
  module _ (u : 1_701 ≤ i) where
    pub all_fine : any 1_701 (breaks (entries s)) ≡ false
    all_fine = subst (λ (k : ℕ). any k (breaks (entries s)) ≡ false) (omega (arith, r.within)) r.fine

    pub all_read : l ≡ entries s
    all_read = ext_get_or 0 l (entries s) (r.size ∙ sym (length_entries s)) (λ k h. r.same k (omega (arith, r.size)) ∙ sym (entry_at s k (omega (arith, r.size))))
