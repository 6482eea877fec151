-- Fewest pairs, of every reached book and every budget: the choice is the greatest and the first, what stands is a pairing that empties every position, and
-- "No pairing that empties every position left after the first pass has fewer than pairs less gap." By what the passes keep. Assumes nothing.
use Rattle.std.specs.Prelude.{◌≡◌, refl, Bool, true, false, List, [], ◌∷◌, ◌++◌, ℕ, zero, suc, ◌+◌, ◌≤◌, ◌<◌}
use Rattle.std.proofs.Common.{sym, ap, ap₂, ◌∙◌, inl, inr, arith}
use Rattle.book.specs.Types.{Side, Match, Account, Book, Answer, Call, Outcome, Pair}
use Rattle.book.specs.Rows.{long_units, short_units}
use Rattle.book.specs.Tables.{account_at, match_at, with_open}
use Rattle.book.specs.Pairing.{pair}
use Rattle.book.specs.Masks.{balanced_masks}
use Rattle.book.specs.Closing.{first_pass, longs, shorts, tests, chosen, later_passes, pairs, gap, all_passes, lapse_offers}
use Rattle.book.specs.Lists.{Reached, opened, called, after}
use Rattle.book.specs.Demand3.{units_long, units_short}
use Rattle.book.specs.FewestPairs.{units_for, bought, sold, as_pair, matched, Choice, Fewest, FewestPairs}
use Rattle.book.proofs.laws.Counting.{impossible, only, sum_none, sum_zero}
use Rattle.book.proofs.laws.Answered.{Answered, answered}
use Rattle.book.proofs.laws.Sound.{Core, SoundAccount}
use Rattle.book.proofs.laws.Pairing.{Pairable, pairable_long, pairable_short, pair_core, paired_accounts, paired_matches, paired_long, paired_short, paired_new, paired_old}
use Rattle.book.proofs.laws.Closing.{Over, lapsed}
use Rattle.book.proofs.laws.Passes.{first_keep, later_keep}
use Rattle.book.proofs.laws.Steps.{reached_tables}
use Rattle.book.proofs.laws.Units.{balanced, even_pair}
use Rattle.book.proofs.laws.Plans.{units_append}
use Rattle.book.proofs.laws.Fewest.{chosen_in, chosen_disjoint, chosen_upward, chosen_greatest, chosen_first, fewest}

-- ---- matches as pairs

matched_same : (b e : Book) (n j : ℕ) → ((i : ℕ) → j ≤ i → i < j + n → match_at e i ≡ match_at b i) → matched e n j ≡ matched b n j
unfolding matched
matched_same b e zero j h = refl
matched_same b e (suc n) j h = ap₂ ◌∷◌ (ap as_pair (h j (omega arith) (omega arith))) (matched_same b e n (j + 1) (λ i x y. h i (omega arith) (omega arith)))

matched_last : (e : Book) (n j : ℕ) → matched e (suc n) j ≡ matched e n j ++ as_pair (match_at e (j + n)) ∷ []
unfolding matched
matched_last e zero j = let z : j + 0 ≡ j = omega arith in rw z refl
matched_last e (suc n) j = let z : j + suc n ≡ j + 1 + n = omega arith in rw z (ap (as_pair (match_at e j) ∷◌) (matched_last e n (j + 1)))

-- ---- what the later passes make of book f

-- units long are units short; the matches that f has not are pairs of what it had
record Made (f z : Book) : Type 0 where
  pub level : units_long z ≡ units_short z
  pub accounts : z.account_count ≡ f.account_count
  pub number : ℕ
  pub count : z.match_count ≡ f.match_count + number
  pub long : (k : ℕ) → bought k (matched z number f.match_count) + long_units (account_at z k) ≡ long_units (account_at f k)
  pub short : (k : ℕ) → sold k (matched z number f.match_count) + short_units (account_at z k) ≡ short_units (account_at f k)

level_kept : (b : Book) (c : Bool) (x y u : ℕ) → Core b → Pairable b x y u → units_long b ≡ units_short b → units_long (pair b c 1 x y u) ≡ units_short (pair b c 1 x y u)
level_kept b c x y u r p h = omega (arith, (even_pair b c 1 x y u (omega arith) r p).balanced)

made_one : (f z : Book) (c : Bool) (i j u : ℕ) → Core z → Pairable z i j u → Made f z → Made f (pair z c 1 i j u)
unfolding units_for
made_one f z c i j u r p m =
    let e = pair z c 1 i j u in
    let q = pair_core z c 1 i j u (omega arith) p r in
    record {
      level = level_kept z c i j u r p m.level;
      accounts = paired_accounts q ∙ m.accounts;
      number = suc m.number;
      count = omega (arith, paired_matches q, m.count);
      long = λ k. omega (arith, more (λ x. x.buyer) k, m.long k, paired_long p q r k, pairable_long p k);
      short = λ k. omega (arith, more (λ x. x.seller) k, m.short k, paired_short p q r k, pairable_short p k);
    }
  where
    n : ℕ
    n = f.match_count

    new : Pair
    new = record { buyer = i; seller = j; units = u }

    listed : matched (pair z c 1 i j u) (suc m.number) n ≡ matched z m.number n ++ new ∷ []
    listed =
        let e = pair z c 1 i j u in
        let q = pair_core z c 1 i j u (omega arith) p r in
        matched_last e m.number n
        ∙ ap₂ (λ (l : List Pair) (x : Match). l ++ as_pair x ∷ []) (matched_same z e m.number n (λ k h g. paired_old p q r k (λ x. omega (arith, m.count)))) (ap (match_at e) (sym m.count) ∙ paired_new p q r)

    more : (end : Pair → ℕ) (k : ℕ) → units_for end k (matched (pair z c 1 i j u) (suc m.number) n) ≡ units_for end k (matched z m.number n) + only (end new) u k
    more end k = ap (units_for end k) listed ∙ units_append end k (matched z m.number n) (new ∷ []) ∙ omega arith

-- ---- the choice

choice : (b : Book) (budget : ℕ) → Choice (balanced_masks (longs b) (shorts b) (tests b budget)) (chosen b budget)
choice b budget = record {
  choosable = record { tested = chosen_in b budget; apart = chosen_disjoint b budget; rising = chosen_upward b budget };
  most = λ gs h. chosen_greatest b budget gs h.apart h.tested;
  first = λ gs h. chosen_first b budget gs h.apart h.rising h.tested;
}

-- ---- an accepted Close

-- units long are units short in every reached book
level_after : {b : Book} → Reached b → (cs : List Call) → units_long (after b cs) ≡ units_short (after b cs)
unfolding after
level_after (opened heats s kind t r p e) cs = balanced heats s kind t r p cs
level_after (called c h) cs = level_after h (c ∷ cs)

level : {b : Book} → Reached b → units_long b ≡ units_short b
unfolding after
level h = level_after h []

-- nobody is left on either side
none_over : (z : Book) → units_long z ≡ units_short z → Over z → (k : ℕ) → k < z.account_count → (long_units (account_at z k) ≡ 0) × (short_units (account_at z k) ≡ 0)
unfolding units_long units_short
none_over z e (inl o) k h =
    (o k h, sum_zero (λ i. short_units (account_at z i)) z.account_count 0 (omega (arith, e, sum_none (λ i. long_units (account_at z i)) z.account_count 0 (λ i x y. o i (omega arith)))) k (omega arith) (omega arith))
none_over z e (inr o) k h =
    (sum_zero (λ i. long_units (account_at z i)) z.account_count 0 (omega (arith, e, sum_none (λ i. short_units (account_at z i)) z.account_count 0 (λ i x y. o i (omega arith)))) k (omega arith) (omega arith), o k h)

-- an account that is neither long nor short with units has none
none_units : {day : ℕ} (a : Account) → SoundAccount day a → long_units a ≡ 0 → short_units a ≡ 0 → a.units ≡ 0
none_units a s l h = go a.side refl
  where
    go : (x : Side) → a.side ≡ x → a.units ≡ 0
    go Side.Flat e = s.flat_none e
    go Side.Long e = rw e at l
    go Side.Short e = rw e at h

module _ {b : Book} (h : Reached b) (o : b.«open» ≡ true) (budget : ℕ) where
  abbrev first : Book
  first = first_pass b

  abbrev last : Book
  last = with_open (lapse_offers (all_passes b budget)) false

  closed_fewest : Fewest b budget (pairs first budget) (tests first budget) (gap first budget) last
  unfolding all_passes lapse_offers pairs matched units_for
  closed_fewest =
      let r = reached_tables h in
      let f = first_keep (λ (x : Book). units_long x ≡ units_short x) level_kept b (r.matches_open o) r.core (level h) in
      let z = later_passes first budget in
      let w = later_keep (Made first) (made_one first) b.match_count first budget (r.matches_open o) f.high_count f.kept.1 f.core
      (record { level = f.kept.0; accounts = refl; number = 0; count = omega arith; long = λ k. omega arith; short = λ k. omega arith }) in
      let m = w.kept.0 in
      let n = w.accounts in
      let none = none_over z m.level (w.kept.1 f.kept.0) in
      let t = w.core.accounts in
      let l = lapsed z (omega (arith, t.size, t.few)) in
      let number : pairs first budget ≡ m.number = omega (arith, m.count) in
      let same : matched last (pairs first budget) first.match_count ≡ matched z m.number first.match_count = ap (λ (i : ℕ). matched last i first.match_count) number ∙ matched_same z last m.number first.match_count (λ i x y. refl) in
      record {
        chooses = choice first budget;
        made = omega (arith, m.count);
        empties = record {
          long = λ k x. rw same (omega (arith, m.long k, (none k (omega arith)).0));
          short = λ k x. rw same (omega (arith, m.short k, (none k (omega arith)).1));
        };
        emptied = λ k x. rw (l.rows k) (none_units (account_at z k) (t.rows k x) (none k x).0 (none k x).1);
        no_fewer = fewest first f.core budget;
      }

closes_fewest : (b : Book) (budget p t g : ℕ) {o : Outcome} → Answered b (Call.Close budget) o → Reached b → o.answer ≡ Answer.Closed p t g → Fewest b budget p t g o.book
closes_fewest b budget p t g (Answered.refused n x) h e = impossible (cc)
closes_fewest b budget p t g (Answered.closes m) h e =
    let x : pairs (first_pass b) budget ≡ p = cc in
    let y : tests (first_pass b) budget ≡ t = cc in
    let z : gap (first_pass b) budget ≡ g = cc in
    rw (← x, ← y, ← z) (closed_fewest h m.is_open budget)

pub fewest_pairs : FewestPairs
fewest_pairs b budget p t g h e = closes_fewest b budget p t g (answered b (Call.Close budget)) h e
