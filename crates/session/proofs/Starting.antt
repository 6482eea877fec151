-- A session from its first line: line one's outcome, and what the whole comes to. Assumes nothing.
use Rattle.std.specs.Prelude.{◌≡◌, true, List, [], ◌∷◌, ℕ, ◌≤◌, ◌<◌, ltb, length, take, Result, Ok, Err}
use Rattle.std.proofs.Common.{ap, sym, ◌∙◌, arith, lt-ltb, le-ltb, length-take, append-nil}
use mathlib.Core.Bool.{true≢false}
use Rattle.heats.specs.HeatTables.{IsHeatTable}
use Rattle.book.specs.declared.tables.Book.{Book}
use Rattle.book.specs.Outcomes.{Answer, Outcome}
use Rattle.book.specs.Answers.{refuse, accept, is_accepted}
use Rattle.book.specs.Opening.{opening, no_book}
use Rattle.book.specs.Lists.{Reached, opened as reached-opening, after}
use Rattle.book.specs.Demand3.{Holds}
use Rattle.book.proofs.laws.Counting.{by_pick}
use Rattle.book.proofs.laws.Steps.{after_reached}
use Rattle.book.proofs.laws.Demand.{demand_3}
use Rattle.reader.specs.declared.lines.BadLine.{BadLine}
use Rattle.book.specs.declared.calls.Opening.{Opening}
use Rattle.reader.specs.Numbers.{numbers, numbers_on}
use Rattle.reader.specs.Lines.{lines, later, line_length, opening_of, opening_line_of}
use Rattle.text.specs.declared.print.Printer.{Printer}
use Rattle.text.specs.Print.{Put, answer_line}
use Rattle.text.specs.Printer.{Prints}
use Rattle.text.specs.Ledger.{ledger}
use Rattle.reader.proofs.Cutting.{cut_some}
use Rattle.text.proofs.Printing.{prints_then}
use Rattle.running.specs.Later.{answers, calls_of}
use Rattle.session.specs.Session.{told, opened, first, line_one, session, outcome, Demanded, Delivered}

-- ---- line one

pub too_long : (heats s : List ℕ) → 65_536 < length s → refuse 26 no_book ≡ line_one heats s
unfolding line_one
too_long heats s h = rw (lt-ltb _ _ h)

-- what the first line says
pub first_line : (heats s : List ℕ) → length s ≤ 65_536 → (l : Result Opening BadLine) → l ≡ opening_line_of (take (line_length s) s) → opened heats l ≡ line_one heats s
unfolding lines line_length line_one numbers numbers_on opening_of opening_line_of
first_line heats [] h l q = rw q
first_line heats (x ∷ s) h l q = rw (le-ltb _ _ h, q) (sym (ap (first heats) (cut_some (x ∷ s) (omega arith)).first))

-- ---- an accepted line one

-- it is an accepted opening
by_opening : (P : Outcome → Type 0) (heats : List ℕ) → ((kind t r p : ℕ) → is_accepted (opening heats kind t r p).answer ≡ true → P (opening heats kind t r p)) → (ls : List (List ℕ)) → is_accepted (first heats ls).answer ≡ true → P (first heats ls)
by_opening P heats f [] h = absurd (true≢false (sym h))
by_opening P heats f (l ∷ ls) h = go (opening_line_of l) h
  where
    go : (o : Result Opening BadLine) → is_accepted (opened heats o).answer ≡ true → P (opened heats o)
    go (Err e) a = absurd (true≢false (sym a))
    go (Ok o) a = f o.kind o.tonnes o.rate o.price a

-- demand 3 of the calls that any input's lines are
pub demanded : (heats : List ℕ) → IsHeatTable heats → (ls : List (List ℕ)) → Demanded heats ls
demanded heats i ls = by_opening (λ (o : Outcome). Holds o.book (calls_of (later ls)) (after o.book (calls_of (later ls)))) heats (λ kind t r p a. demand_3 heats i kind t r p a (calls_of (later ls))) ls

-- and its book is reached
begun : (heats : List ℕ) → IsHeatTable heats → (s : List ℕ) → is_accepted (line_one heats s).answer ≡ true → Reached (line_one heats s).book
unfolding line_one
begun heats i s = by_pick (λ (o : Outcome). is_accepted o.answer ≡ true → Reached o.book) (ltb 65_536 (length s))
    (λ _ a. absurd (true≢false (sym a)))
    (λ _ a. by_opening (λ (o : Outcome). Reached o.book) heats (reached-opening heats i) (lines s) a)

-- ---- the whole, from line one on

module _ (heats s : List ℕ) (n : ℕ) (e : refuse n no_book ≡ line_one heats s) where
  pub refused_prints : {x y : Printer} → Prints x y (answer_line (Answer.Refused n)) → Prints x y (session heats s)
  unfolding session
  refused_prints f = rw (← e, append-nil (answer_line (Answer.Refused n))) f

  pub refused_outcome : refuse n no_book ≡ outcome heats s
  unfolding outcome
  refused_outcome = rw (← e)

module _ (heats s : List ℕ) {b : Book} (e : accept 0 b ≡ line_one heats s) where
  -- the lines after line one were run
  module _ (l : List ℕ) {b' : Book} (p : lines l ≡ later (lines s)) (q : b' ≡ after b (calls_of (lines l))) where
    pub accepted_prints : {w x y z : Printer} → Prints w x (answer_line (Answer.Accepted 0)) → Prints x y (answers b (lines l)) → Prints y z (ledger b') → Prints w z (session heats s)
    unfolding session told
    accepted_prints f g h = rw (← e, ← p) (prints_then f (prints_then g (rw q at h)))

    pub accepted_outcome : accept 0 b' ≡ outcome heats s
    unfolding outcome
    accepted_outcome = rw (← e, ← p, q)

-- who wrote a session's output from the start has delivered it
pub delivered : {heats s x out : List ℕ} {r : ℕ} → IsHeatTable heats → Put x out 0 r (session heats s) → Delivered heats s x out r
delivered {heats} {s} {x} {out} {r} i p =
    let n : length (take r out) ≡ r = ap length p.text ∙ omega (arith, p.next) in
    record { within = omega (arith, length-take r out); counted = sym n; text = p.text; kept = p.kept; demanded = demanded heats i (lines s) }

-- the book after a session is reached
pub outcome_led : (heats : List ℕ) → IsHeatTable heats → (s : List ℕ) → is_accepted (outcome heats s).answer ≡ true → Reached (outcome heats s).book
unfolding outcome
outcome_led heats i s = by_pick (λ (o : Outcome). is_accepted o.answer ≡ true → Reached o.book) (is_accepted (line_one heats s).answer)
    (λ a _. after_reached _ (calls_of (later (lines s))) (begun heats i s a))
    (λ a h. absurd (true≢false (sym h ∙ a)))
