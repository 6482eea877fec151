-- What each byte does to a line half read: one law for each way through the reader's loop. Assumes nothing.
use Prim.Native.Nat.{ℕ, suc, ◌+◌, ◌-◌, ◌*◌, ◌^◌, ◌≤◌, ◌<◌}
use native.Mathlib.Omega.{arith}
use native.Mathlib.Nat.{pow-suc, pow-le-pow_right}
use native.Mathlib.Numerals.{add-one}
use mathlib.Core.Path.{◌≡◌, refl, sym, ap, ◌∙◌}
use mathlib.Core.Bool.{Bool, true, false}
use mathlib.Core.List.{List, [], ◌∷◌, ◌++◌}
use mathlib.Core.Logic.{◌≢◌, ◌⊎◌, inl, inr}
use lib.ListN.{length, get_or, take, drop, drop_of_length-le, length-append, take-append-drop}
use lib.Seq.{drop-cons, get_or-append_seam}
use Rattle.std.specs.Prelude.{Option, None, Some, Result, Ok, Err, OnErr, IfSome, IsSome}
use Rattle.std.specs.Result.{IsErr}
use Rattle.std.proofs.lemmas.List.{nil_from_length}
use Rattle.std.proofs.lemmas.Result.{MatchResult-from_err}
use Rattle.std.proofs.lemmas.Bool.Decides.{nat_tests}
use Rattle.std.proofs.Common.{rules}
use Rattle.coal.specs.Choice.{pick}
use Rattle.reader.specs.declared.lines.BadLine.{BadLine}
use Rattle.reader.specs.Numbers.{takes_digit, ends_number, with_digit, numbers_on, numbers}

-- what a number that has begun has of d digits
pub record Begun (x d : ℕ) : Type 0 where
  pub some : 1 ≤ d
  pub below : x < 10 ^ d
  pub above : x ≢ 0 → 10 ^ d ≤ 10 * x

-- the number that is read so far has d digits and the value v
abbrev pub Digits : Option ℕ → ℕ → ℕ → Type 0
Digits None d v = (d ≡ 0) × (v ≡ 0)
Digits (Some x) d v = (v ≡ x) × Begun x d

-- a digit more, by the value alone and by the digits
takes : (n : Option ℕ) (d v c : ℕ) → Digits n d v → with_digit n c ≡ pick (takes_digit d v) (Ok (v * 10 + c)) (Err (record {}))
takes None d v c r = grind (arith, nat_tests, r)
takes (Some x) d v c r =
    let low : d ≤ 17 → 10 ^ d ≤ 10 ^ 17 = λ h. pow-le-pow_right {n = 10} (omega arith) h in
    let high : 18 ≤ d → 10 ^ 18 ≤ 10 ^ d = λ h. pow-le-pow_right {n = 10} (omega arith) h in
    let some = r.1.some in
    let below = r.1.below in
    let above = r.1.above in
    grind (arith, nat_tests, r.0, low, high, some, below, above)

-- a digit more was taken
record Taken (y c x : ℕ) : Type 0 where
  pub some : y ≢ 0
  pub sum : x ≡ y * 10 + c

taken : (y c x : ℕ) → with_digit (Some y) c ≡ Ok x → Taken y c x
taken y c x e = record { some = λ z. grind (arith, nat_tests, e, z); sum = grind (arith, nat_tests, e) }

begun : (y d c x : ℕ) → Begun y d → c ≤ 9 → Taken y c x → Begun x (d + 1)
begun y d c x r h t =
    let above = r.above t.some in
    record { some = omega arith; below = rw (add-one d, pow-suc) (omega arith); above = λ z. rw (add-one d, pow-suc) (omega arith) }

more : (n : Option ℕ) (d v c x : ℕ) → Digits n d v → c ≤ 9 → with_digit n c ≡ Ok x → Digits (Some x) (d + 1) (v * 10 + c)
more None d v c x r h e = let k : c ≡ x = cc in
    (omega arith, record { some = omega arith; below = rw r.0 (omega arith); above = λ z. rw r.0 (omega arith) })
more (Some y) d v c x r h e = let t = taken y c x e in (omega (arith, t.sum, r.0), begun y d c x r.1 h t)

module _ (b : ℕ) (s : List ℕ) (d v : ℕ) (ns : List ℕ) where
  on_digit : 48 ≤ b → b ≤ 57 → numbers_on (b ∷ s) d v ns ≡ pick (takes_digit d v) (numbers_on s (d + 1) (v * 10 + (b - 48)) ns) []
  unfolding numbers_on
  on_digit l h = grind (arith, nat_tests)

  on_space : b ≡ 32 → numbers_on (b ∷ s) d v ns ≡ pick (ends_number d (length ns)) (numbers_on s 0 0 (ns ++ (v ∷ []))) []
  unfolding numbers_on
  on_space e = grind (arith, nat_tests)

  on_newline : b ≡ 10 → s ≡ [] → numbers_on (b ∷ s) d v ns ≡ pick (ends_number d (length ns)) (ns ++ (v ∷ [])) []
  unfolding numbers_on
  on_newline e f = grind (arith, nat_tests)

  on_other : b < 48 ⊎ 57 < b → b ≢ 32 → 0 < length s ⊎ b ≢ 10 → numbers_on (b ∷ s) d v ns ≡ []
  unfolding numbers_on
  on_other o e f = grind (arith, nat_tests)

-- a number ends, or there is none, or no place for it
ended : (n : Option ℕ) (d v : ℕ) (ns : List ℕ) (x : ℕ) → Digits n d v → n ≡ Some x → length ns < 9 → (ends_number d (length ns) ≡ true) × (v ≡ x)
ended None d v ns x r f h = cc
ended (Some y) d v ns x r f h = let some = r.1.some in (grind (arith, nat_tests, some), cc)

not_ended : (n : Option ℕ) (d v : ℕ) (ns : List ℕ) → Digits n d v → (n ≡ None) ⊎ (length ns ≡ 9) → ends_number d (length ns) ≡ false
not_ended None d v ns r o = grind (arith, nat_tests, r)
not_ended (Some y) d v ns r (inl f) = cc
not_ended (Some y) d v ns r (inr h) = grind (arith, nat_tests, h)

-- a line that does not end with a newline
unended : (s : List ℕ) (d v : ℕ) (ns : List ℕ) → ((t : List ℕ) → s ≡ t ++ (10 ∷ []) → ⊥) → numbers_on s d v ns ≡ []
unfolding numbers_on
unended [] d v ns h = refl
unended (b ∷ s) d v ns h =
    let k : (t : List ℕ) → s ≡ t ++ (10 ∷ []) → ⊥ = λ t e. h (b ∷ t) (cc) in
    let last : b ≡ 10 → s ≡ [] → ⊥ = λ e f. h [] (cc) in
    let digit = unended s (d + 1) (v * 10 + (b - 48)) ns k in
    let space = unended s 0 0 (ns ++ (v ∷ [])) k in
    let none = nil_from_length s in
    grind (arith, nat_tests, last, digit, space, none)

-- how a choice was made
chose_ok : {A E : Type 0} {x : A} (a : A) (e : E) (t : Bool) → pick t (Ok a) (Err e) ≡ Ok x → t ≡ true
chose_ok a e true p = refl
chose_ok a e false p = cc

chose_err : {A E : Type 0} {f : E} (a : A) (e : E) (t : Bool) → pick t (Ok a) (Err e) ≡ Err f → t ≡ false
chose_err a e true p = cc
chose_err a e false p = refl

-- a failed call's result
pub at_err : {T E Q : Type 0} (r : Result T E) → IsErr r → Q → OnErr r Q
at_err r e q = MatchResult-from_err r _ _ e (λ _. q)

-- the number n that is read so far stands before place i of a line's text, and the numbers ns before it
pub record HalfRead (line text : List ℕ) (i : ℕ) (n : Option ℕ) (ns : List ℕ) : Type 0 where
  pub digits : ℕ
  pub value : ℕ
  pub is : Digits n digits value
  pub on : numbers line ≡ numbers_on (drop i text ++ (10 ∷ [])) digits value ns

-- a line ends with a newline, or says nothing
pub no_bytes : (s : List ℕ) → length s < 1 → numbers s ≡ []
unfolding numbers numbers_on
no_bytes [] h = refl
no_bytes (b ∷ s) h = absurd (omega arith)

pub no_newline : (s : List ℕ) → get_or s (length s - 1) 0 ≢ 10 → numbers s ≡ []
unfolding numbers
no_newline s h = unended s 0 0 [] (λ t e. let k : length (t ++ (10 ∷ [])) - 1 ≡ length t = omega (arith, length-append t (10 ∷ [])) in h (rw (e, k) (get_or-append_seam t 10 [] 0)))

pub first_read : (s : List ℕ) → 1 ≤ length s → get_or s (length s - 1) 0 ≡ 10 → HalfRead s (take (length s - 1) s) 0 None []
unfolding numbers
first_read s h e =
    let n = length s - 1 in
    let k : drop n s ≡ 10 ∷ [] = rw (drop-cons s n 0 (omega arith), e, drop_of_length-le s {i = suc n} (omega arith)) in
    let whole : s ≡ take n s ++ (10 ∷ []) = sym (take-append-drop n s) ∙ ap (λ l. take n s ++ l) k in
    record { digits = 0; value = 0; is = (refl, refl); on = ap numbers whole }

module _ {line text ns : List ℕ} {i : ℕ} {n : Option ℕ} (r : HalfRead line text i n ns) where
  module _ (h : i < length text) where
    next : numbers line ≡ numbers_on (get_or text i 0 ∷ (drop (i + 1) text ++ (10 ∷ []))) r.digits r.value ns
    next = r.on ∙ rw (drop-cons text i 0 h, add-one i)

    module _ (low : 48 ≤ get_or text i 0) (high : get_or text i 0 ≤ 57) where
      on_taken : numbers line ≡ pick (takes_digit r.digits r.value) (numbers_on (drop (i + 1) text ++ (10 ∷ [])) (r.digits + 1) (r.value * 10 + (get_or text i 0 - 48)) ns) []
      on_taken = next ∙ on_digit _ _ _ _ _ low high

      pub read_digit : (x : ℕ) → with_digit n (get_or text i 0 - 48) ≡ Ok x → HalfRead line text (i + 1) (Some x) ns
      read_digit x e =
          let t = chose_ok _ _ (takes_digit r.digits r.value) (sym (takes n r.digits r.value (get_or text i 0 - 48) r.is) ∙ e) in
          record { digits = r.digits + 1; value = r.value * 10 + (get_or text i 0 - 48); is = more n _ _ _ x r.is (omega arith) e; on = on_taken ∙ rw t }

      pub read_long : (f : BadLine) → with_digit n (get_or text i 0 - 48) ≡ Err f → numbers line ≡ []
      read_long f e =
          let t = chose_err _ _ (takes_digit r.digits r.value) (sym (takes n r.digits r.value (get_or text i 0 - 48) r.is) ∙ e) in
          on_taken ∙ rw t

    pub read_space : (x : ℕ) → get_or text i 0 ≡ 32 → n ≡ Some x → length ns < 9 → HalfRead line text (i + 1) None (ns ++ (x ∷ []))
    read_space x e f k = let t = ended n r.digits r.value ns x r.is f k in
        record { digits = 0; value = 0; is = (refl, refl); on = next ∙ on_space _ _ _ _ _ e ∙ rw (t.0, t.1) }

    pub read_no_number : get_or text i 0 ≡ 32 → (n ≡ None) ⊎ (length ns ≡ 9) → numbers line ≡ []
    read_no_number e o = next ∙ on_space _ _ _ _ _ e ∙ rw (not_ended n r.digits r.value ns r.is o)

    pub read_other : get_or text i 0 < 48 ⊎ 57 < get_or text i 0 → get_or text i 0 ≢ 32 → numbers line ≡ []
    read_other o e = next ∙ on_other _ _ _ _ _ o e (inl (rw length-append (omega arith)))

  module _ (h : length text ≤ i) where
    last : numbers line ≡ pick (ends_number r.digits (length ns)) (ns ++ (r.value ∷ [])) []
    last = r.on ∙ rw (drop_of_length-le text h) (on_newline 10 [] r.digits r.value ns refl refl)

    pub read_end : (x : ℕ) → n ≡ Some x → length ns < 9 → ns ++ (x ∷ []) ≡ numbers line
    read_end x f k = let t = ended n r.digits r.value ns x r.is f k in sym (last ∙ rw (t.0, t.1))

    pub read_nothing : (n ≡ None) ⊎ (length ns ≡ 9) → numbers line ≡ []
    read_nothing o = last ∙ rw (not_ended n r.digits r.value ns r.is o)

-- a number that has ended is one of those that are read
pub one_read : (n : Option ℕ) (a b : List ℕ) → IfSome n (λ x. (length b < 9) × (a ≡ b ++ (x ∷ []))) × IsSome n → 0 < length a
one_read None a b r = search (rules, r)
one_read (Some x) a b r = rw r.0.1 (omega (arith, length-append b (x ∷ [])))

pub ruleset read = (no_bytes, no_newline, read_digit, read_space)
