-- A list of calls line by line: line one, what one line adds to the output and to the room that is used, and what the whole comes to. Assumes nothing.
use Rattle.std.specs.Prelude.{◌≡◌, List, [], ◌∷◌, ℕ, ◌+◌, ◌*◌, ◌≤◌, ◌<◌, ltb, length, take, drop, Result, Ok, Err}
use Rattle.std.proofs.Common.{refl, ap, sym, ◌∙◌, arith, lt-ltb, le-ltb, length-take, length-drop, zero, suc}
use Rattle.std.proofs.lemmas.List.{nil_from_length}
use Rattle.book.proofs.laws.Counting.{by_pick}
use Rattle.factory.specs.declared.Call.{Call}
use Rattle.factory.specs.Types.{Factory, Answer, Outcome}
use Rattle.factory.specs.Holders.{fresh, making}
use Rattle.factory.specs.Lists.{Reached, made, called}
use Rattle.factory.proofs.laws.Balance.{balance}
use Rattle.reader.specs.declared.lines.BadLine.{BadLine}
use Rattle.reader.specs.Numbers.{is_digit, numbers, numbers_on}
use Rattle.reader.specs.Lines.{bad, lines, later, line_length}
use Rattle.reader.proofs.Cutting.{cut_some}
use Rattle.text.specs.declared.print.Printer.{Printer}
use Rattle.text.specs.Print.{Put, digits, last_digits, spaced}
use Rattle.text.specs.Printer.{Prints}
use Rattle.text.proofs.Printing.{prints_then, prints_none}
use Rattle.factory_text.specs.Calls.{call_of, line_of, making_of, making_line_of}
use Rattle.factory_text.specs.Answers.{answer_line}
use Rattle.factory_text.specs.Lists.{reply, answers, calls_of, made_by, first, line_one, dispatch_output}
use Rattle.factory_text.specs.Dispatched.{Balanced, Dispatched}

-- ---- line one

pub too_long : (s : List ℕ) → 65_536 < length s → Err 26 ≡ line_one s
unfolding line_one
too_long s h = rw (lt-ltb _ _ h)

-- what the first line says
pub first_line : (s : List ℕ) → length s ≤ 65_536 → (l : Result ℕ BadLine) → l ≡ making_line_of (take (line_length s) s) → made_by l ≡ line_one s
unfolding lines line_length line_one numbers numbers_on making_of making_line_of
first_line [] h l q = rw q
first_line (x ∷ s) h l q = rw (le-ltb _ _ h, q) (sym (ap first (cut_some (x ∷ s) (omega arith)).first))

-- no line of an empty input has a daily number
pub first_some : (s : List ℕ) (n : ℕ) {daily : ℕ} → Ok daily ≡ making_line_of (take n s) → 0 < length s
unfolding numbers numbers_on making_of making_line_of
first_some [] zero e = cc
first_some [] (suc n) e = cc
first_some (x ∷ s) n e = omega arith

-- ---- the calls that a list made

-- a factory is made "without holders"
made_empty : (daily : ℕ) {f : Factory} → making daily ≡ Ok f → f.holders ≡ []
unfolding making
made_empty daily {f} =
    by_pick (λ (r : Result Factory ℕ). r ≡ Ok f → f.holders ≡ []) (ltb daily 1) (λ _ e. cc)
    (λ _. by_pick (λ (r : Result Factory ℕ). r ≡ Ok f → f.holders ≡ []) (ltb 1_000 daily) (λ _ e. cc)
    (λ _ e. let q : fresh daily ≡ f = cc in rw (← q) refl))

making_balanced : (cs : List Call) (daily : ℕ) → Balanced (making daily) cs
making_balanced cs daily = go (making daily) (λ f e. made_empty daily e)
  where
    go : (r : Result Factory ℕ) → ((f : Factory) → r ≡ Ok f → f.holders ≡ []) → Balanced r cs
    go (Err n) h = tt
    go (Ok f) h = balance f (h f refl) cs

first_balanced : (cs : List Call) (ls : List (List ℕ)) → Balanced (first ls) cs
first_balanced cs [] = tt
first_balanced cs (l ∷ ls) = go (making_line_of l)
  where
    go : (r : Result ℕ BadLine) → Balanced (made_by r) cs
    go (Err e) = tt
    go (Ok daily) = making_balanced cs daily

list_balanced : (cs : List Call) (s : List ℕ) → Balanced (line_one s) cs
unfolding line_one
list_balanced cs s = by_pick (λ (r : Result Factory ℕ). Balanced r cs) (ltb 65_536 (length s)) (λ _. tt) (λ _. first_balanced cs (lines s))

-- ---- the factory was reached

making_reached : (daily : ℕ) {f : Factory} → Ok f ≡ making daily → Reached f
making_reached daily {f} e = made daily f (sym e)

first_reached : (ls : List (List ℕ)) {f : Factory} → Ok f ≡ first ls → Reached f
first_reached [] e = cc
first_reached (l ∷ ls) {f} e = go (making_line_of l) e
  where
    go : (r : Result ℕ BadLine) → Ok f ≡ made_by r → Reached f
    go (Err e) q = cc
    go (Ok daily) q = making_reached daily q

pub list_reached : (s : List ℕ) {f : Factory} → Ok f ≡ line_one s → Reached f
unfolding line_one
list_reached s {f} = by_pick (λ (r : Result Factory ℕ). Ok f ≡ r → Reached f) (ltb 65_536 (length s)) (λ _ e. cc) (λ _ e. first_reached (lines s) e)

reply_reached : {f : Factory} → Reached f → (r : Result Call BadLine) → Reached (reply f r).factory
reply_reached h (Ok c) = called c h
reply_reached h (Err e) = h

-- ---- the later lines

-- a line of one byte is bad
single_bad : (x : ℕ) → line_of (x ∷ []) ≡ bad
unfolding line_of numbers numbers_on call_of
single_bad x = by_pick (λ (ns : List ℕ). call_of ns ≡ bad) (is_digit x) (λ _. refl) (λ _. refl)

-- what is printed of an answer, at most 163 bytes, is at most 82 for each byte of its line
reply_few : (f : Factory) (l : List ℕ) → 1 ≤ length l → length (answer_line (reply f (line_of l)).answer) ≤ 163 → length (answer_line (reply f (line_of l)).answer) ≤ 82 * length l
unfolding spaced digits last_digits
reply_few f [] h k = absurd (omega arith)
reply_few f (x ∷ []) h k = rw (single_bad x) (omega arith)
reply_few f (x ∷ y ∷ l) h k = omega arith

-- who prints the answers to come has printed them all
pub record Printed (text : List ℕ) (f : Factory) (before : Printer) (rest : List ℕ) (next : Factory) (now : Printer) : Type 0 where
  pub reached : Reached next
  pub room : now.at + 82 * length rest ≤ before.at + 82 * length text
  pub long : length now.out.now ≡ length before.out.now
  pub on : (z : Printer) → Prints now z (answers next (lines rest)) → Prints before z (answers f (lines text))

module _ {text rest line later : List ℕ} {f next : Factory} (h : 0 < length rest) (p : line ≡ take (line_length rest) rest) (q : later ≡ drop (line_length rest) rest) where
  -- one line's answer
  pub printed_on : {before now then : Printer} → Printed text f before rest next now → (o : Outcome) → o ≡ reply next (line_of line)
      → Prints now then (answer_line o.answer) → then.at ≤ now.at + 163 → Printed text f before later o.factory then
  unfolding answers
  printed_on {now = now} {then} i o e printed few =
      let c = cut_some rest h in
      let some : 1 ≤ length line = rw p (omega (arith, c.some, c.within, length-take (line_length rest) rest)) in
      let written : Prints now then (answer_line (reply next (line_of line)).answer) = rw e at printed in
      let short = reply_few next line some (omega (arith, written.put.next)) in
      let whole : length line + length later ≡ length rest = rw (p, q) (omega (arith, c.within, length-take (line_length rest) rest, length-drop (line_length rest) rest)) in
      let first : lines rest ≡ line ∷ lines later = rw (p, q) c.first in
      record {
        reached = rw e (reply_reached i.reached (line_of line));
        room = omega (arith, i.room, short, written.put.next, whole);
        long = printed.long ∙ i.long;
        on = λ z rest'. i.on z (rw first (prints_then written (rw e at rest')));
      }

-- none is left
pub printed_all : {text rest : List ℕ} {f next : Factory} {before now : Printer} → Printed text f before rest next now → length rest ≡ 0 → Prints before now (answers f (lines text))
unfolding lines answers
printed_all {rest} {now} i h = i.on now (rw (nil_from_length rest h) (prints_none now))

-- ---- the whole, from line one on

pub refused_prints : (s : List ℕ) (n : ℕ) → Err n ≡ line_one s → {x y : Printer} → Prints x y (answer_line (Answer.Refused n)) → Prints x y (dispatch_output s)
unfolding dispatch_output
refused_prints s n e p = rw (← e) p

pub accepted_prints : (s : List ℕ) {f : Factory} → Ok f ≡ line_one s → (l : List ℕ) → lines l ≡ later (lines s) → {x y z : Printer} → Prints x y (answer_line (Answer.Accepted 0)) → Prints y z (answers f (lines l)) → Prints x z (dispatch_output s)
unfolding dispatch_output
accepted_prints s e l p f g = rw (← e, ← p) (prints_then f g)

-- who wrote a list's output from the start has delivered it
pub dispatched : {s x out : List ℕ} {r : ℕ} → Put x out 0 r (dispatch_output s) → Dispatched s x out r
dispatched {s} {x} {out} {r} p =
    let n : length (take r out) ≡ r = ap length p.text ∙ omega (arith, p.next) in
    record { within = omega (arith, length-take r out); counted = sym n; text = p.text; kept = p.kept; balanced = list_balanced (calls_of (later (lines s))) s }
