-- Laws of what is printed: one writing after another, a number's digits, and one row more of a list. Assumes nothing.
use Prim.Native.Nat.{ℕ, zero, suc, ◌+◌, ◌-◌, ◌*◌, ◌^◌, ◌/◌, ◌%◌, ◌≤◌, ◌<◌}
use native.Mathlib.Omega.{arith}
use native.Mathlib.Nat.{pow-suc}
use native.Mathlib.Numerals.{add-one}
use mathlib.Core.Path.{◌≡◌, refl, sym, ap, ◌∙◌}
use mathlib.Core.List.{List, [], ◌∷◌, ◌++◌, append_assoc, append-nil}
use lib.Dec.{ltb}
use borrow.Rule.Slice.PartMut.{put_mid}
use Rattle.std.proofs.lemmas.List.{get_or-take, length-take, length-drop}
use Rattle.std.proofs.lemmas.Slice.{take-put_mid, drop-put_mid}
use lib.ListN.{length, take, drop, get_or, length-append}
use lib.Seq.{take-suc, drop-drop}
use borrow.Author.Tests.{lt-ltb, le-ltb}
use Rattle.std.proofs.lemmas.Fmt.{decimal_by_steps}
use Rattle.std.specs.Fmt.{decimal}
use Rattle.coal.specs.Choice.{pick}
use Rattle.book.proofs.laws.Counting.{by_pick}
use Rattle.book.specs.Outcomes.{Answer}
use Rattle.text.specs.Text.{bytes}
use Rattle.text.specs.Print.{Put, last_digits, digits, spaced, answer_line}
use Rattle.text.specs.declared.print.Printer.{Printer}
use Rattle.text.specs.Printer.{Prints}
use Rattle.text.specs.Ledger.{each}

-- what a loop of printers keeps, at its turn i: the text of i turns is printed, each turn's at most so many bytes
pub record Printed (most : ℕ) (text : ℕ → List ℕ) (before after : Printer) (i : ℕ) : Type 0 where
  pub few : after.at ≤ before.at + most * i
  pub printed : Prints before after (text i)

-- two writings, one after the other
pub put_then : {a b c x y : List ℕ} {i j k : ℕ} → Put a b i j x → Put b c j k y → Put a c i k (x ++ y)
put_then {a} {b} {c} {x} {y} {i} {j} {k} p q =
    let past : drop k b ≡ drop k a = rw (q.next, ← (drop-drop (length y) j b), p.kept, drop-drop) in
    record { next = simp length-append (omega arith); text = q.text ∙ rw (p.text, append_assoc); kept = q.kept ∙ past }

-- nothing is written
pub put_none : (a : List ℕ) (i : ℕ) → Put a a i i []
put_none a i = record { next = omega arith; text = sym (append-nil (take i a)); kept = refl }

-- a part is overwritten with just as many bytes
module _ (a : List ℕ) (i k : ℕ) (x y : List ℕ) (e : y ≡ x) (l : length x ≡ k) (h : i + k ≤ length a) where
  pub part_length : length (put_mid i (i + k - i) a y) ≡ length a
  part_length = rw e (simp (length-append, length-take, length-drop) (omega arith))

  pub put_part : Put a (put_mid i (i + k - i) a y) i (i + k) x
  put_part = rw e (record { next = omega arith; text = take-put_mid i (i + k - i) a x (i + k) (omega arith) (omega arith); kept = drop-put_mid i (i + k - i) a x (i + k) (omega arith) (omega arith) (omega arith) })

-- two printings, one after the other
pub prints_then : {a b c : Printer} {x y : List ℕ} → Prints a b x → Prints b c y → Prints a c (x ++ y)
prints_then p q = record { same = q.same ∙ p.same; long = q.long ∙ p.long; put = put_then p.put q.put }

-- nothing is printed
pub prints_none : (a : Printer) → Prints a a []
prints_none a = record { same = refl; long = refl; put = put_none a.out.now a.at }

-- the line of an answer of three numbers, piece by piece
pub closed_line : (p t g : ℕ) → answer_line (Answer.Closed p t g) ≡ bytes "ok" ++ ((32 ∷ digits p) ++ ((32 ∷ digits t) ++ ((32 ∷ digits g) ++ 10 ∷ [])))
unfolding spaced
closed_line p t g =
    let x = 32 ∷ digits p in
    let y = 32 ∷ digits t in
    let z = 32 ∷ digits g in
    let end : (z ++ []) ++ 10 ∷ [] ≡ z ++ 10 ∷ [] = ap (λ (l : List ℕ). l ++ 10 ∷ []) (append-nil z) in
    ap (bytes "ok" ++◌) (append_assoc x (y ++ (z ++ [])) (10 ∷ []) ∙ ap (x ++◌) (append_assoc y (z ++ []) (10 ∷ []) ∙ ap (y ++◌) end))

-- ---- digits

-- how many digits are asked for does not matter, where they are enough
last_same : (k m n : ℕ) → n ≤ k → n ≤ m → last_digits k n ≡ last_digits m n
unfolding last_digits
last_same zero zero n h l = refl
last_same zero (suc m) n h l = simp (lt-ltb n 10 (omega arith))
last_same (suc k) zero n h l = simp (lt-ltb n 10 (omega arith))
last_same (suc k) (suc m) n h l = rw (last_same k m (n / 10) (omega arith) (omega arith))

pub digits_step : (n : ℕ) → digits n ≡ pick (ltb n 10) [] (digits (n / 10)) ++ ((48 + n % 10) ∷ [])
unfolding digits last_digits
digits_step zero = refl
digits_step (suc n) = rw (last_same n (suc n / 10) (suc n / 10) (omega arith) (omega arith))

tenth : (n m : ℕ) → n < m * 10 → n / 10 < m
tenth n m h = omega arith

-- a number below 10 ^ (k + 1) has at most k + 1 digits
pub digits_short : (k n : ℕ) → n < 10 ^ suc k → length (digits n) ≤ suc k
digits_short zero n h = rw (digits_step n, lt-ltb n 10 h) (omega arith)
digits_short (suc k) n h =
    rw (digits_step n, length-append)
    (by_pick (λ (l : List ℕ). length l + 1 ≤ suc (suc k)) (ltb n 10) (λ _. omega arith)
    (λ _. omega (arith, digits_short k (n / 10) (tenth n (10 ^ suc k) (rw (pow-suc 10 (suc k)) at h)))))

pub digits_64 : (n : ℕ) → n < 2 ^ 64 → length (digits n) ≤ 20
digits_64 n h = digits_short 19 n (omega arith)

pub digits_16 : (n : ℕ) → n < 2 ^ 16 → length (digits n) ≤ 5
digits_16 n h = digits_short 4 n (omega arith)

pub digits_small : (n : ℕ) → n < 10 → digits n ≡ (48 + n % 10) ∷ []
digits_small n h = rw (digits_step n, lt-ltb n 10 h) refl

pub digits_two : (n : ℕ) → 10 ≤ n → n < 100 → digits n ≡ (48 + n / 10 % 10) ∷ (48 + n % 10) ∷ []
digits_two n g h = rw (digits_step n, le-ltb n 10 g, digits_small (n / 10) (omega arith)) refl

-- the library's decimal text of a number
pub digits_decimal : (n : ℕ) → n < 2 ^ 64 → digits n ≡ decimal n
digits_decimal n h = decimal_by_steps (λ m l. digits m ≡ l)
    (λ m g. let same : 48 + m % 10 ≡ 48 + m = omega arith in rw (digits_step m, lt-ltb m 10 g, same) refl)
    (λ m l g e. rw (digits_step m, le-ltb m 10 g, e) refl) n h

pub digits_longer : (n : ℕ) → 10 ≤ n → length (digits n) ≡ length (digits (n / 10)) + 1
digits_longer n g = rw (digits_step n, le-ltb n 10 g, length-append)

-- ---- numbers with a space before each

spaced_last : (ns : List ℕ) (n : ℕ) → spaced (ns ++ (n ∷ [])) ≡ spaced ns ++ (32 ∷ digits n)
unfolding spaced
spaced_last [] n = append-nil (32 ∷ digits n)
spaced_last (m ∷ ns) n = rw (spaced_last ns n) (sym (append_assoc (32 ∷ digits m) (spaced ns) (32 ∷ digits n)))

-- one number more
pub spaced_more : {a b c : Printer} (ns : List ℕ) (n : ℕ) → n < length ns → Prints a b (spaced (take n ns)) →
    Prints b c (32 ∷ digits (get_or ns n 0)) → Prints a c (spaced (take (n + 1) ns))
spaced_more ns n h p q = rw (add-one n, take-suc ns n 0 h, spaced_last) (prints_then p q)

-- ---- the rows of a table

each_last : (n i : ℕ) (f : ℕ → List ℕ) → each (suc n) i f ≡ each n i f ++ f (i + n)
unfolding each
each_last zero i f = let e : i + 0 ≡ i = omega arith in rw e (append-nil (f i))
each_last (suc n) i f = let e : i + 1 + n ≡ i + suc n = omega arith in rw (each_last n (i + 1) f, e) (sym (append_assoc (f i) (each n (i + 1) f) (f (i + suc n))))

-- one row more
pub rows_more : {a b c : Printer} (f : ℕ → List ℕ) (n : ℕ) → Prints a b (each n 0 f) → Prints b c (f n) → Prints a c (each (n + 1) 0 f)
rows_more f n p q = let e : 0 + n ≡ n = omega arith in rw (add-one n, each_last n 0 f, e) (prints_then p q)

-- texts that agree, place by place
each_same : (n i : ℕ) (f g : ℕ → List ℕ) → ((k : ℕ) → k < i + n → f k ≡ g k) → each n i f ≡ each n i g
unfolding each
each_same zero i f g h = refl
each_same (suc n) i f g h = rw (h i (omega arith), each_same n (i + 1) f g (λ k l. h k (omega arith))) refl

-- a section of the first n rows of a table: a line with their number, and the rows
pub section_taken : {a b : Printer} {A : Type 0} (head : ℕ → List ℕ) (f : ℕ → A → List ℕ) (d : A) (table rows : List A) (n : ℕ) → rows ≡ take n table → length rows ≡ n →
    Prints a b (head (length rows) ++ each (length rows) 0 (λ k. f k (get_or rows k d))) → Prints a b (head n ++ each n 0 (λ k. f k (get_or table k d)))
section_taken head f d table rows n e h p =
    let same = each_same n 0 (λ k. f k (get_or rows k d)) (λ k. f k (get_or table k d)) (λ k l. rw (e, get_or-take n table k d (omega arith)) refl) in
    rw (← same, ← h) p
