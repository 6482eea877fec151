-- Laws of what is printed of an answer: its shares one after the other, and how many bytes it has. Assumes nothing.
use Rattle.std.specs.Prelude.{◌≡◌, List, [], ◌∷◌, ◌++◌, ℕ, ◌+◌, ◌≤◌, ◌<◌, ◌^◌, ltb, leb, length, get_or, Result, Ok, Err}
use Rattle.std.proofs.Common.{refl, ap, ◌∙◌, arith, zero, suc, add-one}
use Rattle.book.proofs.laws.Counting.{by_pick}
use Rattle.factory.specs.declared.Call.{Call}
use Rattle.factory.specs.Types.{Factory, Answer, Outcome}
use Rattle.factory.specs.Holders.{arrive, leave}
use Rattle.factory.specs.Day.{day}
use Rattle.factory.specs.Lists.{Reached, step}
use Rattle.factory.proofs.laws.Within.{within}
use Rattle.factory.proofs.laws.Fairness.{fairness}
use Rattle.reader.specs.declared.lines.BadLine.{BadLine}
use Rattle.text.specs.declared.print.Printer.{Printer}
use Rattle.text.specs.Text.{bytes}
use Rattle.text.specs.Print.{digits, spaced}
use Rattle.text.specs.Printer.{Prints}
use Rattle.text.specs.Ledger.{each}
use Rattle.text.proofs.Printing.{prints_then, digits_short}
use Rattle.factory_text.specs.Answers.{answer_line, IsShort}
use Rattle.factory_text.specs.Lists.{reply}

-- a number below 10 ^ 4 has at most four digits
pub digits_four : (n : ℕ) → n < 10 ^ 4 → length (digits n) ≤ 4
digits_four n h = digits_short 3 n h

-- texts from a place on, by the places after it
each_after : (n i : ℕ) (f g : ℕ → List ℕ) → ((k : ℕ) → f (k + 1) ≡ g k) → each n (i + 1) f ≡ each n i g
unfolding each
each_after zero i f g h = refl
each_after (suc n) i f g h = rw (h i, each_after n (i + 1) f g h) refl

-- shares as the rows of a table are numbers with a space before each
shares_spaced : (l : List ℕ) → each (length l) 0 (λ k. 32 ∷ digits (get_or l k 0)) ≡ spaced l
unfolding each spaced
shares_spaced [] = refl
shares_spaced (x ∷ l) = ap ((32 ∷ digits x) ++◌) (each_after (length l) 0 (λ k. 32 ∷ digits (get_or (x ∷ l) k 0)) (λ k. 32 ∷ digits (get_or l k 0)) (λ k. rw (add-one k) refl) ∙ shares_spaced l)

-- `ok`, the shares and the newline
pub shares_line : {a b c d : Printer} (l : List ℕ) → Prints a b (bytes "ok") → Prints b c (each (length l) 0 (λ k. 32 ∷ digits (get_or l k 0))) → Prints c d (10 ∷ []) → Prints a d (answer_line (Answer.Shared l))
shares_line l p q r = prints_then p (prints_then (rw (shares_spaced l) at q) r)

-- ---- no answer is long

day_short : {f : Factory} → Reached f → IsShort (day f).answer
unfolding day
day_short {f} h =
    let fair = (fairness f).fair in
    let w = within f h in
    (omega (arith, fair.each, w.holders), λ k g. omega (arith, fair.each, fair.most k (omega (arith, fair.each)), w.claims k))

-- what a line of a reached factory is answered is short
reply_short : {f : Factory} → Reached f → (r : Result Call BadLine) → IsShort (reply f r).answer
unfolding step arrive leave
reply_short h (Err e) = tt
reply_short {f} h (Ok (Call.Arrive claim)) =
    by_pick (λ (o : Outcome). IsShort o.answer) (ltb 1_000 claim) (λ _. tt) (λ _. by_pick (λ (o : Outcome). IsShort o.answer) (leb 32 (length f.holders)) (λ _. tt) (λ _. tt))
reply_short {f} h (Ok (Call.Leave place)) = by_pick (λ (o : Outcome). IsShort o.answer) (leb (length f.holders) place) (λ _. tt) (λ _. tt)
reply_short h (Ok Call.Day) = day_short h

pub answer_short : {f : Factory} {o : Outcome} → Reached f → (r : Result Call BadLine) → o ≡ reply f r → IsShort o.answer
answer_short h r e = rw e (reply_short h r)
