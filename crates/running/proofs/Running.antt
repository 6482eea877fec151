-- A session line by line: what one line adds to the output, to the calls and to the room that is used. Assumes nothing.
use Rattle.std.specs.Prelude.{◌≡◌, List, [], ◌∷◌, ℕ, ◌+◌, ◌*◌, ◌≤◌, ◌<◌, length, take, drop, Result, Ok, Err}
use Rattle.std.proofs.Common.{refl, sym, ◌∙◌, arith, length-take, length-drop}
use Rattle.std.proofs.lemmas.List.{nil_from_length}
use Rattle.book.specs.declared.calls.Call.{Call}
use Rattle.book.specs.declared.tables.Book.{Book}
use Rattle.book.specs.Outcomes.{Outcome}
use Rattle.book.specs.Lists.{after}
use Rattle.book.proofs.laws.Counting.{by_pick}
use Rattle.reader.specs.declared.lines.BadLine.{BadLine}
use Rattle.reader.specs.Numbers.{is_digit, numbers, numbers_on}
use Rattle.reader.specs.Lines.{lines, line_length, line_of, call_of, bad}
use Rattle.text.specs.declared.print.Printer.{Printer}
use Rattle.text.specs.Print.{answer_line, digits, last_digits, spaced}
use Rattle.text.specs.Printer.{Prints}
use Rattle.reader.proofs.Cutting.{Cut, cut_some}
use Rattle.text.proofs.Printing.{prints_then, prints_none}
use Rattle.running.specs.Later.{reply, answers, call_then, calls_of}

-- the calls of a line and of those after it, from the book that it was answered in
after_line : (b : Book) (l : Result Call BadLine) (cs : List Call) → after b (call_then l cs) ≡ after (reply b l).book cs
unfolding after
after_line b (Ok c) cs = refl
after_line b (Err e) cs = refl

-- ---- the lines run

-- with so much of the text to come the calls to come lead to the book after them all
pub record Led (text : List ℕ) (b : Book) (rest : List ℕ) (next : Book) : Type 0 where
  pub same : after next (calls_of (lines rest)) ≡ after b (calls_of (lines text))

module _ (rest : List ℕ) (h : 0 < length rest) where
  cut : Cut rest
  cut = cut_some rest h

  first : {line later : List ℕ} → line ≡ take (line_length rest) rest → later ≡ drop (line_length rest) rest → lines rest ≡ line ∷ lines later
  first p q = rw (p, q) cut.first

module _ {text rest line later : List ℕ} {b next : Book} (h : 0 < length rest) (p : line ≡ take (line_length rest) rest) (q : later ≡ drop (line_length rest) rest) where
  -- one line
  pub led_on : Led text b rest next → (o : Outcome) → o ≡ reply next (line_of line) → Led text b later o.book
  unfolding calls_of
  led_on i o e = record { same = rw e (sym (after_line next (line_of line) (calls_of (lines later))) ∙ (rw (first rest h p q) at i.same)) }

-- none is left
pub led_all : {text rest : List ℕ} {b next : Book} → Led text b rest next → length rest ≡ 0 → next ≡ after b (calls_of (lines text))
unfolding lines calls_of after
led_all {rest} i h = rw (nil_from_length rest h) at i.same

-- ---- the answers printed

-- a line of one byte is bad
single_bad : (x : ℕ) → line_of (x ∷ []) ≡ bad
unfolding line_of numbers numbers_on call_of
single_bad x = by_pick (λ (ns : List ℕ). call_of ns ≡ bad) (is_digit x) (λ _. refl) (λ _. refl)

-- what is printed of an answer, at most 24 bytes, is at most 12 for each byte of its line
reply_short : (b : Book) (l : List ℕ) → 1 ≤ length l → length (answer_line (reply b (line_of l)).answer) ≤ 24 → length (answer_line (reply b (line_of l)).answer) ≤ 12 * length l
unfolding spaced digits last_digits
reply_short b [] h k = absurd (omega arith)
reply_short b (x ∷ []) h k = rw (single_bad x) (omega arith)
reply_short b (x ∷ y ∷ l) h k = omega arith

-- who prints the answers to come has printed them all
pub record Printed (text : List ℕ) (b : Book) (before : Printer) (rest : List ℕ) (next : Book) (now : Printer) : Type 0 where
  pub led : Led text b rest next
  pub room : now.at + 12 * length rest ≤ before.at + 12 * length text
  pub long : length now.out.now ≡ length before.out.now
  pub on : (z : Printer) → Prints now z (answers next (lines rest)) → Prints before z (answers b (lines text))

module _ {text rest line later : List ℕ} {b next : Book} (h : 0 < length rest) (p : line ≡ take (line_length rest) rest) (q : later ≡ drop (line_length rest) rest) where
  -- one line's answer
  pub printed_on : {before now then : Printer} → Printed text b before rest next now → (o : Outcome) → o ≡ reply next (line_of line)
      → Prints now then (answer_line o.answer) → then.at ≤ now.at + 24 → Printed text b before later o.book then
  unfolding answers
  printed_on {now = now} {then} i o e printed few =
      let c = cut_some rest h in
      let some : 1 ≤ length line = rw p (omega (arith, c.some, c.within, length-take (line_length rest) rest)) in
      let written : Prints now then (answer_line (reply next (line_of line)).answer) = rw e at printed in
      let short = reply_short next line some (omega (arith, written.put.next)) in
      let whole : length line + length later ≡ length rest = rw (p, q) (omega (arith, c.within, length-take (line_length rest) rest, length-drop (line_length rest) rest)) in
      record {
        led = led_on h p q i.led o e;
        room = omega (arith, i.room, short, written.put.next, whole);
        long = printed.long ∙ i.long;
        on = λ z rest'. i.on z (rw (first rest h p q) (prints_then written (rw e at rest')));
      }

-- none is left
pub printed_all : {text rest : List ℕ} {b next : Book} {before now : Printer} → Printed text b before rest next now → length rest ≡ 0 → Prints before now (answers b (lines text))
unfolding lines answers
printed_all {rest} {now} i h = i.on now (rw (nil_from_length rest h) (prints_none now))
