-- A chain of refusals: one law for each kind of test that stops a call and one for each that lets it pass, as the set `chain`. No proof asks for them: calls are refused by `?`.
-- Assumes nothing.
use Rattle.std.specs.Prelude.{◌≡◌, refl, Bool, true, false, not, ◌||◌, ℕ, ◌≤◌, ◌<◌, leb, ltb, eqb}
use Rattle.std.proofs.Common.{sym, ap, ◌∙◌, le-ltb, lt-ltb, le-leb, eq-eqb, ne_eqb}
use Rattle.std.proofs.lemmas.Bool.{lt-leb}
use Rattle.book.specs.declared.tables.Book.{Book}
use Rattle.book.specs.Outcomes.{Outcome}
use Rattle.book.specs.Answers.{refuse, refuse_if, refusal_of}

-- the answer of a function that promises a test is what the test gives
pub told : {s t v : Bool} → s ≡ t → s ≡ v → t ≡ v
told e h = sym e ∙ h

module _ (n : ℕ) (b : Book) (r : Outcome) where
  pub stop : (t : Bool) → t ≡ true → refuse n b ≡ refuse_if t n b r
  stop t h = rw h refl

  -- a test that a function made
  pub stop_told : (s t : Bool) → s ≡ t → s ≡ true → refuse n b ≡ refuse_if t n b r
  stop_told s t e h = stop t (told e h)

  pub stop_not : (s t : Bool) → s ≡ t → not s ≡ true → refuse n b ≡ refuse_if (not t) n b r
  stop_not s t e h = stop (not t) (told (ap not e) h)

  pub stop_leb : (x y : ℕ) → x ≤ y → refuse n b ≡ refuse_if (leb x y) n b r
  stop_leb x y h = stop (leb x y) (le-leb _ _ h)

  pub stop_ltb : (x y : ℕ) → x < y → refuse n b ≡ refuse_if (ltb x y) n b r
  stop_ltb x y h = stop (ltb x y) (lt-ltb _ _ h)

  -- a number that a function gave
  pub stop_ltb_told : (v x y : ℕ) → v ≡ x → v < y → refuse n b ≡ refuse_if (ltb x y) n b r
  stop_ltb_told v x y e h = stop_ltb x y (rw e at h)

  pub stop_eqb : (x y : ℕ) → x ≡ y → refuse n b ≡ refuse_if (eqb x y) n b r
  stop_eqb x y h = stop (eqb x y) (eq-eqb _ _ h)

  module _ (z : Outcome) where
    pub past : (t : Bool) → t ≡ false → z ≡ r → z ≡ refuse_if t n b r
    past t h e = rw h e

    pub past_told : (s t : Bool) → s ≡ t → s ≡ false → z ≡ r → z ≡ refuse_if t n b r
    past_told s t e h = past t (told e h)

    pub past_not : (s t : Bool) → s ≡ t → not s ≡ false → z ≡ r → z ≡ refuse_if (not t) n b r
    past_not s t e h = past (not t) (told (ap not e) h)

    pub past_leb : (x y : ℕ) → y < x → z ≡ r → z ≡ refuse_if (leb x y) n b r
    past_leb x y h e = past (leb x y) (lt-leb _ _ h) e

    pub past_ltb : (x y : ℕ) → y ≤ x → z ≡ r → z ≡ refuse_if (ltb x y) n b r
    past_ltb x y h e = past (ltb x y) (le-ltb _ _ h) e

    pub past_ltb_told : (v x y : ℕ) → v ≡ x → y ≤ v → z ≡ r → z ≡ refuse_if (ltb x y) n b r
    past_ltb_told v x y e h = past_ltb x y (rw e at h)

    pub past_eqb : (x y : ℕ) → (x ≡ y → ⊥) → z ≡ r → z ≡ refuse_if (eqb x y) n b r
    past_eqb x y h e = past (eqb x y) (ne_eqb _ _ h) e

pub ruleset chain = (stop_leb, stop_ltb, stop_eqb, past_leb, past_ltb, past_eqb, stop, past, stop_told, past_told, stop_not, past_not, stop_ltb_told, past_ltb_told)

-- ---- the number of a refusal alone

abbrev pub number : Outcome → ℕ
number o = refusal_of o.answer

-- two tests of one number: where one of them holds, and where neither does
pub either_gives : (n : ℕ) (b : Book) (r : Outcome) (s t : Bool) → s || t ≡ true → n ≡ number (refuse_if s n b (refuse_if t n b r))
either_gives n b r true t h = refl
either_gives n b r false t h = rw h refl

pub neither : (s t : Bool) → s || t ≡ false → (s ≡ false) × (t ≡ false)
neither true t h = (h, cc)
neither false t h = (refl, h)
