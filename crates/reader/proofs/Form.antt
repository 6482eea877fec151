-- What a line that is read as a call says: its numbers are the call's number and arguments, and these are read as that call. Assumes nothing.
use Prim.Native.Nat.{ℕ}
use mathlib.Core.Path.{◌≡◌, refl}
use mathlib.Core.List.{List, [], ◌∷◌}
use lib.Dec.{eqb}
use borrow.Author.Tests.{eqb-true}
use Rattle.std.specs.Prelude.{Result, Ok, Err}
use Rattle.coal.specs.Choice.{pick}
use Rattle.book.specs.declared.calls.Call.{Call}
use Rattle.book.specs.Codes.{call_number, sample}
use Rattle.book.proofs.laws.Counting.{by_pick}
use Rattle.reader.specs.declared.lines.BadLine.{BadLine}
use Rattle.reader.specs.Numbers.{numbers}
use Rattle.reader.specs.Lines.{arguments, call_of, line_of}

-- the numbers are those of the call, where there is one
abbrev Reads : List ℕ → Result Call BadLine → Type 0
Reads ns (Ok c) = ns ≡ call_number c ∷ arguments c
Reads ns (Err e) = Unit {0}

either : (k : ℕ) (c : Call) (rest : Result Call BadLine) → Reads (k ∷ arguments c) rest → Reads (k ∷ arguments c) (pick (eqb k (call_number c)) (Ok c) rest)
either k c rest r = by_pick (Reads (k ∷ arguments c)) (eqb k (call_number c)) (λ e. cc (eqb-true k (call_number c) e)) (λ e. r)

reads : (ns : List ℕ) → Reads ns (call_of ns)
unfolding call_of
reads [] = tt
reads (k ∷ []) = tt
reads (k ∷ x ∷ []) = either k (Call.Retract x) _ (either k (Call.Day x) _ (either k (Call.Close x) _ (either k (Call.Pay x) _ (either k (Call.Invoice x) _ (either k (Call.HandOver x) _ tt)))))
reads (k ∷ x ∷ y ∷ []) =
    either k (Call.Join x y) _
    (either k (Call.Deposit x y) _
    (either k (Call.Withdraw x y) _
    (either k (Call.Lodge x y) _
    (either k (Call.Strike x y) _
    (either k (Call.Declare x y) _ (either k (Call.Offer x y) _ (either k (Call.Take x y) _ (either k (Call.Terminate x y) _ tt))))))))
reads (k ∷ x ∷ y ∷ z ∷ []) = either k (Call.Trade x y z) _ (either k (Call.Auction x y z) _ tt)
reads (k ∷ x ∷ y ∷ z ∷ u ∷ []) = tt
reads (k ∷ x ∷ y ∷ z ∷ u ∷ v ∷ []) = tt
reads (k ∷ x ∷ y ∷ z ∷ u ∷ v ∷ w ∷ []) = tt
reads (k ∷ x ∷ y ∷ z ∷ u ∷ v ∷ w ∷ t ∷ []) = tt
reads (k ∷ j ∷ w ∷ q ∷ m ∷ s ∷ f ∷ a ∷ d ∷ []) = either k (Call.Measure j (sample w q m s f a) d) _ tt
reads (k ∷ j ∷ w ∷ q ∷ m ∷ s ∷ f ∷ a ∷ d ∷ n ∷ ns) = tt

pub run_numbers : (s : List ℕ) (c : Call) → line_of s ≡ Ok c → numbers s ≡ call_number c ∷ arguments c
unfolding line_of
run_numbers s c e = rw e at (reads (numbers s))

-- the numbers of each call are read as that call
pub reads_back : (c : Call) → call_of (call_number c ∷ arguments c) ≡ Ok c
unfolding call_of
reads_back (Call.Join x y) = refl
reads_back (Call.Deposit x y) = refl
reads_back (Call.Withdraw x y) = refl
reads_back (Call.Trade x y z) = refl
reads_back (Call.Lodge x y) = refl
reads_back (Call.Strike x y) = refl
reads_back (Call.Declare x y) = refl
reads_back (Call.Offer x y) = refl
reads_back (Call.Retract x) = refl
reads_back (Call.Take x y) = refl
reads_back (Call.Day x) = refl
reads_back (Call.Close x) = refl
reads_back (Call.Pay x) = refl
reads_back (Call.Measure j x d) = refl
reads_back (Call.Invoice x) = refl
reads_back (Call.Terminate x y) = refl
reads_back (Call.HandOver x) = refl
reads_back (Call.Auction x y z) = refl
