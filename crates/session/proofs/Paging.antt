-- The page of the book after a session, in a lent buffer, and the room that is enough for it. Assumes nothing.
use Rattle.std.specs.Prelude.{◌≡◌, Bool, true, false, List, [], ◌∷◌, ◌++◌, ℕ, ◌≤◌, ◌<◌, ltb, length, take, drop, Option, Some, None, IfSome, Result, Ok, Err}
use Rattle.std.proofs.Common.{refl, sym, ◌∙◌, arith, lt-ltb, le-ltb, length-append, length-take-le}
use Rattle.heats.specs.HeatTables.{IsHeatTable}
use Rattle.coal.specs.Choice.{pick}
use Rattle.book.specs.declared.tables.Book.{Book}
use Rattle.book.specs.Outcomes.{Answer, Outcome}
use Rattle.book.specs.declared.refusals.Refusal.{Refusal}
use Rattle.book.specs.Answers.{refuse, accept, is_accepted, answer_of}
use Rattle.book.specs.Opening.{opening, no_book}
use Rattle.book.proofs.laws.Counting.{by_pick}
use Rattle.reader.specs.declared.lines.BadLine.{BadLine}
use Rattle.book.specs.declared.calls.Opening.{Opening}
use Rattle.reader.specs.Lines.{lines, opening_line_of}
use Rattle.text.specs.Print.{Put, answer_line, spaced, digits, last_digits}
use Rattle.text.specs.Page.{page, lent, page_answer}
use Rattle.text.proofs.Columns.{few, page_length}
use Rattle.text.proofs.Lent.{lent_short}
use Rattle.session.specs.Session.{opened, first, line_one, outcome}
use Rattle.session.specs.Paging.{page_output, page_room, lent_count, Paged}
use Rattle.session.proofs.Starting.{demanded, outcome_led}

-- ---- the count of bytes in a lent buffer

module _ (t before : List ℕ) where
  -- all of them, where the buffer is long enough
  lent_all : length t ≤ length before → lent_count t before ≡ Some (length t)
  unfolding lent_count
  lent_all h = rw (le-ltb (length before) (length t) h) refl

  lent_within : IfSome (lent_count t before) (λ n. n ≤ length (lent t before))
  unfolding lent lent_count
  lent_within = go (ltb (length before) (length t))
    where
      go : (c : Bool) → IfSome (pick c None (Some (length t))) (λ n. n ≤ length (pick c before (t ++ drop (length t) before)))
      go true = tt
      go false = simp length-append (omega arith)

-- none, where it is too short
pub lent_none : {before : List ℕ} (t : List ℕ) → length before < length t → (None ≡ lent_count t before) × (before ≡ lent t before)
unfolding lent_count
lent_none {before} t h = (rw (lt-ltb (length before) (length t) h) refl, lent_short t h)

-- a text from a buffer of its own, where it was written first
pub lent_again : {x y part : List ℕ} {w : ℕ} (before t : List ℕ) → Put x y 0 w t → w ≤ length before → part ≡ take w y → (Some w ≡ lent_count t before) × (part ++ drop w before ≡ lent t before)
unfolding lent
lent_again {w = w} before t p h q =
    let n : w ≡ length t = omega (arith, p.next) in
    let g : length t ≤ length before = omega arith in
    (rw n (sym (lent_all t before g)), rw (le-ltb (length before) (length t) g, q, p.text, n) refl)

-- the page's answer tells the count
pub page_counted : (b : Book) (before : List ℕ) (r : Result ℕ Refusal) (o : Option ℕ) → answer_of r ≡ page_answer b before → ((n : ℕ) → r ≡ Ok n → o ≡ Some n) → ((e : Refusal) → r ≡ Err e → o ≡ None) → o ≡ lent_count (page b) before
unfolding page_answer lent_count
page_counted b before r o e f g = go r refl (ltb (length before) (length (page b))) e
  where
    go : (a : Result ℕ Refusal) → r ≡ a → (c : Bool) → answer_of a ≡ pick c (Answer.Refused 27) (Answer.Accepted (length (page b))) → o ≡ pick c None (Some (length (page b)))
    go (Ok n) p true q = cc
    go (Ok n) p false q = let h = f n p in cc
    go (Err x) p true q = g x p
    go (Err x) p false q = cc

-- ---- the room that is enough

-- line one's answer is short
abbrev Short : Outcome → Type 0
Short o = length (answer_line o.answer) ≤ 24

opening_short : (heats : List ℕ) (kind t r p : ℕ) → Short (opening heats kind t r p)
unfolding opening spaced digits last_digits
opening_short heats kind t r p =
    by_pick Short (ltb 1 kind) (λ _. omega arith)
    (λ _. by_pick Short (ltb t 1) (λ _. omega arith)
    (λ _. by_pick Short (ltb 20_000 t) (λ _. omega arith)
    (λ _. by_pick Short (ltb 100 r) (λ _. omega arith)
    (λ _. by_pick Short (ltb p 1) (λ _. omega arith)
    (λ _. by_pick Short (ltb 1_000_000 p) (λ _. omega arith) (λ _. omega arith))))))

first_short : (heats : List ℕ) (ls : List (List ℕ)) → Short (first heats ls)
unfolding spaced digits last_digits
first_short heats [] = omega arith
first_short heats (l ∷ ls) = go (opening_line_of l)
  where
    go : (o : Result Opening BadLine) → Short (opened heats o)
    go (Err e) = omega arith
    go (Ok o) = opening_short heats o.kind o.tonnes o.rate o.price

line_one_short : (heats s : List ℕ) → Short (line_one heats s)
unfolding line_one spaced digits last_digits
line_one_short heats s = by_pick Short (ltb 65_536 (length s)) (λ _. omega arith) (λ _. first_short heats (lines s))

outcome_short : (heats s : List ℕ) → Short (outcome heats s)
unfolding outcome spaced digits last_digits
outcome_short heats s = by_pick Short (is_accepted (line_one heats s).answer) (λ _. omega arith) (λ _. line_one_short heats s)

-- and no page of a reached book is longer than the longest
page_fits : (heats : List ℕ) → IsHeatTable heats → (s : List ℕ) → length (page_output heats s) ≤ page_room
unfolding page_output
page_fits heats i s = by_pick (λ (t : List ℕ). length t ≤ page_room) (is_accepted (outcome heats s).answer)
    (λ a. let h = outcome_led heats i s a in omega (arith, page_length h, (few h).0, (few h).1, (few h).2))
    (λ _. omega (arith, outcome_short heats s))

-- ---- what the function promises

-- who gives the count and leaves the buffer as they are meant has done it
module _ {heats s before out : List ℕ} {r : Option ℕ} (i : IsHeatTable heats) where
  paged : (t : List ℕ) → page_output heats s ≡ t → (r ≡ lent_count t before) × (out ≡ lent t before) → Paged heats s before out r
  paged t e p =
      let count : r ≡ lent_count (page_output heats s) before = rw e p.0 in
      let within : IfSome r (λ n. n ≤ length out) = rw (p.0, p.1) (lent_within t before) in
      record {
        within = within;
        counted = taken r within;
        count = count;
        text = rw e p.1;
        enough = λ g. count ∙ lent_all (page_output heats s) before (omega (arith, page_fits heats i s));
        demanded = demanded heats i (lines s);
      }
    where
      taken : (o : Option ℕ) → IfSome o (λ n. n ≤ length out) → IfSome o (λ n. n ≡ length (take n out))
      taken None h = tt
      taken (Some n) h = sym (length-take-le n out h)

  pub page_paged : {b : Book} → accept 0 b ≡ outcome heats s → (r ≡ lent_count (page b) before) × (out ≡ lent (page b) before) → Paged heats s before out r
  unfolding page_output
  page_paged {b = b} e p = paged (page b) (rw (← e)) p

  pub line_paged : {n : ℕ} → refuse n no_book ≡ outcome heats s → (r ≡ lent_count (answer_line (Answer.Refused n)) before) × (out ≡ lent (answer_line (Answer.Refused n)) before) → Paged heats s before out r
  unfolding page_output
  line_paged {n} e p = paged (answer_line (Answer.Refused n)) (rw (← e)) p
