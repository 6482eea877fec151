-- Laws of fields: spaces before a text or after it. Assumes nothing.
use Prim.Native.Nat.{ℕ, ◌+◌, ◌-◌, ◌^◌, ◌/◌, ◌%◌, ◌≤◌, ◌<◌}
use native.Mathlib.Omega.{arith}
use mathlib.Core.Path.{◌≡◌}
use mathlib.Core.List.{List, [], ◌∷◌, ◌++◌}
use lib.ListN.{length, take, drop, replicate, length-append}
use Rattle.std.proofs.lemmas.List.{length-take, length-drop}
use Rattle.text.specs.declared.print.Printer.{Printer}
use Rattle.text.specs.Print.{digits}
use Rattle.text.specs.Printer.{Prints}
use Rattle.text.specs.Page.{spaces, right, padded, yuan}
use Rattle.text.proofs.Printing.{prints_then, digits_short}

-- 64 bits of fen are at most 18 digits of yuan
pub yuan_short : (x : ℕ) → x < 2 ^ 64 → length (digits (x / 100)) ≤ 18
yuan_short x h = digits_short 17 (x / 100) (omega arith)

-- a part filled with spaces
pub filled : (a y : List ℕ) (i n : ℕ) → i + n ≤ length a → y ≡ replicate (length (take (i + n - i) (drop i a))) 32 → y ≡ spaces n
filled a y i n h e = let f : length (take (i + n - i) (drop i a)) ≡ n = simp (length-take, length-drop) (omega arith) in rw f at e

-- a text after the spaces before it
pub right_prints : {a b c : Printer} (w : ℕ) (t : List ℕ) → Prints a b (spaces (w - length t)) → Prints b c t → Prints a c (right w t)
unfolding right
right_prints w t p q = prints_then p q

-- the spaces after a text
pub padded_prints : {a b c : Printer} (w : ℕ) (t : List ℕ) → Prints a b t → Prints b c (spaces (a.at + w - b.at)) → Prints a c (padded w t)
unfolding padded
padded_prints {a} {b} w t p q = let e : w - length t ≡ a.at + w - b.at = omega (arith, p.put.next) in rw e (prints_then p q)

-- whole yuan, the point and two decimals, after a sign and as many spaces as are left
pub yuan_prints : {a b c d e f g : Printer} (s : List ℕ) (x n : ℕ) → n ≡ 19 - length s - length (digits (x / 100)) → Prints a b (spaces n) → Prints b c s → Prints c d (digits (x / 100)) →
    Prints d e (46 ∷ []) → Prints e f ((48 + x / 10 % 10) ∷ []) → Prints f g ((48 + x % 10) ∷ []) → Prints a g (right 22 (s ++ yuan x))
unfolding right yuan
yuan_prints s x n h p q r t u v =
    let e : 22 - length (s ++ (digits (x / 100) ++ (46 ∷ (48 + x / 10 % 10) ∷ (48 + x % 10) ∷ []))) ≡ n = simp length-append (omega arith) in
    rw e (prints_then p (prints_then q (prints_then r (prints_then t (prints_then u v)))))
