-- What a line that is read as a call says: its numbers are the call's number and arguments, and these are read as that call. Assumes nothing.
use Rattle.std.specs.Prelude.{◌≡◌, cond, List, [], ◌∷◌, ℕ, eqb, Result, Ok, Err}
use Rattle.std.proofs.Common.{refl, eqb-true}
use Rattle.book.proofs.laws.Counting.{by_pick}
use Rattle.factory.specs.declared.Call.{Call}
use Rattle.reader.specs.declared.lines.BadLine.{BadLine}
use Rattle.reader.specs.Numbers.{numbers}
use Rattle.factory_text.specs.Calls.{call_number, arguments, call_of, line_of}

-- the numbers are those of the call, where there is one
abbrev Reads : List ℕ → Result Call BadLine → Type 0
Reads ns (Ok c) = ns ≡ call_number c ∷ arguments c
Reads ns (Err e) = Unit {0}

either : (k : ℕ) (c : Call) (rest : Result Call BadLine) → Reads (k ∷ arguments c) rest → Reads (k ∷ arguments c) (cond (eqb k (call_number c)) (Ok c) rest)
either k c rest r = by_pick (Reads (k ∷ arguments c)) (eqb k (call_number c)) (λ e. cc (eqb-true k (call_number c) e)) (λ e. r)

reads : (ns : List ℕ) → Reads ns (call_of ns)
unfolding call_of
reads [] = tt
reads (k ∷ []) = either k Call.Day _ tt
reads (k ∷ x ∷ []) = either k (Call.Arrive x) _ (either k (Call.Leave x) _ tt)
reads (k ∷ x ∷ y ∷ ns) = tt

pub run_numbers : (s : List ℕ) (c : Call) → line_of s ≡ Ok c → numbers s ≡ call_number c ∷ arguments c
unfolding line_of
run_numbers s c e = rw e at (reads (numbers s))

-- the numbers of each call are read as that call
pub reads_back : (c : Call) → call_of (call_number c ∷ arguments c) ≡ Ok c
unfolding call_of
reads_back (Call.Arrive claim) = refl
reads_back (Call.Leave place) = refl
reads_back Call.Day = refl
