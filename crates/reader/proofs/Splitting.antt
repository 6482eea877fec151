-- The lines that std cuts off a text, one after the other, are its lines. Assumes nothing.
use Rattle.std.specs.Prelude.{◌≡◌, List, [], ◌∷◌, ◌++◌, ℕ, ◌+◌, ◌<◌, length, take, drop, MatchOption}
use Rattle.std.proofs.Common.{refl, sym, ◌∙◌, subst, arith, zero, suc, Bool, true, false, eqb, min, Option, Some, None, Bor}
use Rattle.std.proofs.Math.Seq.{take-append_seam, drop-append_seam}
use Rattle.std.proofs.lemmas.List.{nil_from_length}
use Rattle.std.proofs.lemmas.Fn.{always_returns_same}
use Rattle.std.proofs.lemmas.Iterator.{YieldsList}
use Rattle.std.proofs.lemmas.Iterator.Splits.{YieldsList-from_shown_while}
use Rattle.std.specs.Fn.{ComputesKey, CalledAt}
use Rattle.std.specs.Iterator.{AlwaysYields}
use Rattle.std.specs.List.{IsFirstMatchOrLen}
use Rattle.std.specs.Slice.Iter.{split_inclusive_rest, split_inclusive_callee}
use Rattle.std.specs.declared.slice.SplitInclusive.{SplitInclusive}
use denote.Param.Members.{Mut}
use Rattle.reader.specs.Lines.{lines, line_length}
use Rattle.reader.proofs.Cutting.{cut_some}

newline : ℕ → Bool
newline b = eqb b 10

-- the first newline ends the first line, as the end of the text does
line_end : (s : List ℕ) (i : ℕ) → IsFirstMatchOrLen newline s i → min (i + 1) (length s) ≡ line_length s
unfolding line_length newline
line_end [] i h = omega arith
line_end (b ∷ s) zero h = let hit : eqb b 10 ≡ true = h.1 (omega arith) 0 in rw hit (omega arith)
line_end (b ∷ s) (suc i) h =
    let miss : eqb b 10 ≡ false = h.0 0 0 (omega arith) (omega arith) in
    rw miss (omega (arith, line_end s i ((λ k d l m. h.0 (suc k) d (omega arith) (omega arith)), (λ l d. h.1 (omega arith) d))))

-- a text is its first line and what follows it
line_first : (s x t : List ℕ) → s ≡ x ++ t → length x ≡ line_length s → 0 < length s → lines s ≡ x ∷ lines t
line_first s x t e n h =
    let front : take (line_length s) s ≡ x = rw (← n, e) (take-append_seam x t) in
    let back : drop (line_length s) s ≡ t = rw (← n, e) (drop-append_seam x t) in
    rw (front, back) at (cut_some s h).first

-- one step of `split_inclusive`
abbrev cuts : {F : Type 0} → Mut F (Bor ℕ × Unit {0}) Bool → SplitInclusive ℕ F → Option (Bor (List ℕ)) → SplitInclusive ℕ F → Type 0
cuts g s r t = MatchOption r ((length (split_inclusive_rest s) ≡ 0) × (t ≡ s))
    (λ x. (split_inclusive_rest s ≡ x.now ++ split_inclusive_rest t)
    × ((i : ℕ) × (length x.now ≡ min (i + 1) (length (split_inclusive_rest s))) × ((p : ℕ → Bool) → ComputesKey g p (split_inclusive_callee s) → ComputesKey g p (split_inclusive_callee t) × IsFirstMatchOrLen p (split_inclusive_rest s) i))
    × (0 < length (split_inclusive_rest s)))

-- cut after each newline, a text gives its lines
pub gives_lines : {F : Type 0} {s : _} (g : Mut F (Bor ℕ × Unit {0}) Bool) {f : F} (text : List ℕ) → split_inclusive_rest s ≡ text → split_inclusive_callee s ≡ f
    → ((x : ℕ) (b : Bool) (q : F) → CalledAt g f x b q → (q ≡ f) × (b ≡ eqb x 10)) → YieldsList (cuts g) (λ x. x.now) s (lines text)
unfolding newline lines
gives_lines {s = s} g {f} text rest closure tests =
    subst (λ l. YieldsList (cuts g) (λ x. x.now) s (lines l)) rest
    (YieldsList-from_shown_while (cuts g) (λ x. x.now) (λ t. lines (split_inclusive_rest t)) (λ t. ComputesKey g newline (split_inclusive_callee t))
    (λ t u h k. rw (nil_from_length (split_inclusive_rest t) k.0) refl)
    (λ t x u h k. let m = k.1.2 newline h in (m.0, line_first (split_inclusive_rest t) x.now (split_inclusive_rest u) k.0 (k.1.1 ∙ line_end _ _ m.1) k.2))
    s (subst (ComputesKey g newline) (sym closure) (always_returns_same g (λ a r. r ≡ newline a.0.now) f (λ a r q k. let m = tests a.0.now r q (record { shown = a.0; shows = refl; called = k }) in (m.1, m.0)))))

-- the lines to come are those of some rest of the text
module _ {S A : Type 0} {steps : S → Option A → S → Type 0} {v : A → List ℕ} {s t : S} where
  pub next_line : (rest : List ℕ) → YieldsList steps v s (lines rest) → (x : A) → steps s (Some x) t →
      (0 < length rest) × (v x ≡ take (line_length rest) rest) × YieldsList steps v t (lines (drop (line_length rest) rest))
  unfolding lines
  next_line [] i x h = absurd (i.runs x t h)
  next_line (b ∷ rest) i x h =
      let some : 0 < length (b ∷ rest) = omega arith in
      let m = (subst (AlwaysYields steps v s) (cut_some (b ∷ rest) some).first i.runs).1 x t h in
      (some, m.0, record { runs = m.1 })

  pub no_line : (rest : List ℕ) → YieldsList steps v s (lines rest) → steps s None t → length rest ≡ 0
  no_line [] i h = refl
  no_line (b ∷ rest) i h = absurd ((subst (AlwaysYields steps v s) (cut_some (b ∷ rest) (omega arith)).first i.runs).0 t h)
