-- Pay and Hand over read of a book only what is their match's, and change no other's: each is one act on its match, after tests. So on two matches with no
-- account in common they give the same answers and the same book in either order, in every book. Assumes nothing.
use Rattle.std.specs.Prelude.{◌≡◌, refl, ◌≢◌, Bool, true, false, not, List, ℕ, ◌+◌, ◌-◌, ◌*◌, ◌≤◌, ◌<◌, leb, ltb, eqb, Option, Some, None}
use Rattle.std.proofs.Common.{sym, ap, ◌∙◌, add-zero, arith, leb-false}
use mathlib.Core.Bool.{true≢false, or-true}
use borrow.Author.Tests.{leb-true, le-leb, lt-ltb, eq-eqb}
use Rattle.coal.specs.Choice.{pick}
use Rattle.book.specs.Types.{Stage, Match, Book, Call}
use Rattle.book.specs.Rows.{is_paired, is_funded}
use Rattle.book.specs.Tables.{match_at, pay, charge}
use Rattle.book.specs.Answers.{accept}
use Rattle.book.specs.Settlement.{value, penalty, punish, seller_fault, buyer_fault, first_part, release_turn, free_again, pass_turn, pass_receipts, into_held, to_auction, paid_stage, fault_ended, paid, pay_match, handed, hand_over}
use Rattle.book.specs.Calls.{step}
use Rattle.book.specs.Entries.{Entry, penalty_entries, pay_entries, hand_over_entries}
use Rattle.book.specs.EitherOrder.{is_party, Apart, EitherOrder, InEitherOrder}
use Rattle.book.proofs.laws.Acts.{stay, free, iter_stay, Off, Act, act, Verdict, no, does, run, run_both, run_answer, run_count, run_if, Spares, spares_if, Left, run_left}

-- ---- Pay

-- "Then the match is ended and its receipts are free again."
abbrev ended : List Entry → ℕ → Act
ended es x = record { entries = es; gained = x; held = 0; stage = Stage.Ended; move = free (λ k. k) }

-- by the buyer's fault and the seller's
abbrev pay_act : Book → ℕ → Match → Option ℕ → Option ℕ → Act
pay_act b j m None None = record { entries = pay_entries b m None None; gained = 0; held = value b m; stage = paid_stage b j m; move = stay }
pay_act b j m (Some x) None = ended (pay_entries b m (Some x) None) 0
pay_act b j m None (Some y) = ended (pay_entries b m None (Some y)) 0
pay_act b j m (Some x) (Some y) = ended (pay_entries b m (Some x) (Some y)) (penalty b m x + penalty b m y)

unfoldable pay_verdict : Book → ℕ → Verdict
pay_verdict b j =
    pick (leb b.match_count j) (no 21)
    (pick (not (is_paired (match_at b j).stage)) (no 22)
    (pick (ltb b.day (match_at b j).due) (no 23)
    (does (pay_act b j (match_at b j) (buyer_fault b j) (seller_fault b j)))))

paid_act : (b : Book) (j : ℕ) (x y : Option ℕ) → paid b j (match_at b j) x y ≡ act b j (pay_act b j (match_at b j) x y)
unfolding paid into_held fault_ended free_again release_turn punish pay_entries penalty_entries pay charge act
paid_act b j None None = rw (add-zero b.fund, iter_stay b.receipt_count 0 b.receipts)
paid_act b j (Some x) None = rw (add-zero b.fund)
paid_act b j None (Some y) = rw (add-zero b.fund)
paid_act b j (Some x) (Some y) = refl

pay_run : (b : Book) (j : ℕ) → pay_match b j ≡ run b j (pay_verdict b j)
unfolding pay_match pay_verdict
pay_run b j = let e = paid_act b j (buyer_fault b j) (seller_fault b j) in search (run_if, ap (accept 0) e)

pay_act_spares : (b : Book) (j k : ℕ) (m : Match) (x y : Option ℕ) → k ≢ m.buyer → k ≢ m.seller → Off k (pay_act b j m x y).entries
unfolding pay_entries penalty_entries
pay_act_spares b j k m None None g h = search
pay_act_spares b j k m (Some x) None g h = search
pay_act_spares b j k m None (Some y) g h = search
pay_act_spares b j k m (Some x) (Some y) g h = search

pay_spares : (b : Book) (j k : ℕ) → k ≢ (match_at b j).buyer → k ≢ (match_at b j).seller → Spares k (pay_verdict b j)
unfolding pay_verdict
pay_spares b j k g h = search (spares_if, pay_act_spares b j k (match_at b j) (buyer_fault b j) (seller_fault b j) g h)

module _ (b e : Book) (i : ℕ) (s : Left b e i) where
  value_left : (m : Match) → value e m ≡ value b m
  unfolding value
  value_left m = ap (λ (t : ℕ). m.units * m.price * t) s.tonnes

  buyer_left : buyer_fault e i ≡ buyer_fault b i
  unfolding buyer_fault
  buyer_left = rw (s.row, value_left, s.buyer, s.rate)

  seller_left : seller_fault e i ≡ seller_fault b i
  unfolding seller_fault
  seller_left = rw (s.row, s.frozen, s.seller, s.board, s.rate)

  stage_left : paid_stage e i (match_at b i) ≡ paid_stage b i (match_at b i)
  unfolding paid_stage to_auction
  stage_left = rw (s.ordinary, s.buyer, s.board)

  act_left : (x y : Option ℕ) → pay_act e i (match_at b i) x y ≡ pay_act b i (match_at b i) x y
  unfolding pay_entries penalty_entries penalty
  act_left None None = rw (value_left, stage_left)
  act_left (Some x) None = rw value_left
  act_left None (Some y) = rw value_left
  act_left (Some x) (Some y) = rw value_left

  pay_left : pay_verdict e i ≡ pay_verdict b i
  unfolding pay_verdict
  pay_left = rw (buyer_left, seller_left, s.row, act_left, s.count, s.day)

-- ---- Hand over

abbrev hand_over_act : Book → Match → Act
hand_over_act b m = record { entries = hand_over_entries b m; gained = 0; held = value b m - first_part (value b m); stage = Stage.Held; move = free (λ k. m.buyer) }

unfoldable hand_over_verdict : Book → ℕ → Verdict
hand_over_verdict b j =
    pick (leb b.match_count j) (no 21)
    (pick (not (is_funded (match_at b j).stage)) (no 22)
    (does (hand_over_act b (match_at b j))))

handed_act : (b : Book) (j : ℕ) → handed b j (match_at b j) (value b (match_at b j)) (match_at b j).buyer ≡ act b j (hand_over_act b (match_at b j))
unfolding handed pass_receipts pass_turn hand_over_entries pay act
handed_act b j = rw (add-zero b.fund)

hand_over_run : (b : Book) (j : ℕ) → hand_over b j ≡ run b j (hand_over_verdict b j)
unfolding hand_over hand_over_verdict
hand_over_run b j = search (run_if, ap (accept 0) (handed_act b j))

hand_over_spares : (b : Book) (j k : ℕ) → k ≢ (match_at b j).buyer → k ≢ (match_at b j).seller → Spares k (hand_over_verdict b j)
unfolding hand_over_verdict hand_over_entries
hand_over_spares b j k g h = search (spares_if, h)

hand_over_left : (b e : Book) (i : ℕ) → Left b e i → hand_over_verdict e i ≡ hand_over_verdict b i
unfolding hand_over_verdict hand_over_entries
hand_over_left b e i s = rw (s.row, value_left b e i s (match_at b i), s.count)

-- ---- matches with no account in common

module _ (b : Book) (j : ℕ) (h : j < b.match_count) where
  buyer_is : is_party b j (match_at b j).buyer ≡ true
  unfolding is_party
  buyer_is = rw (lt-ltb j b.match_count h, eq-eqb (match_at b j).buyer (match_at b j).buyer refl) refl

  seller_is : is_party b j (match_at b j).seller ≡ true
  unfolding is_party
  seller_is = rw (lt-ltb j b.match_count h, eq-eqb (match_at b j).seller (match_at b j).seller refl) (or-true (eqb (match_at b j).buyer (match_at b j).seller))

  not_buyer : (k : ℕ) → is_party b j k ≡ false → k ≢ (match_at b j).buyer
  not_buyer k n e = true≢false (sym buyer_is ∙ ap (is_party b j) (sym e) ∙ n)

  not_seller : (k : ℕ) → is_party b j k ≡ false → k ≢ (match_at b j).seller
  not_seller k n e = true≢false (sym seller_is ∙ ap (is_party b j) (sym e) ∙ n)

turned : (b : Book) (i j : ℕ) → Apart b i j → Apart b j i
turned b i j a k p = go (is_party b i k) refl
  where
    go : (t : Bool) → is_party b i k ≡ t → t ≡ false
    go true e = sym p ∙ a k e
    go false e = refl

two : (b : Book) (i j : ℕ) → Apart b i j → i < b.match_count → i ≢ j
two b i j a h e = let k = (match_at b i).buyer in true≢false (sym (buyer_is b i h) ∙ ap (λ (n : ℕ). is_party b n k) e ∙ a k (buyer_is b i h))

by_there : {P : Type 0} (b : Book) (j : ℕ) → (b.match_count ≤ j → P) → (j < b.match_count → P) → P
by_there {P} b j h g = go (leb b.match_count j) refl
  where
    go : (t : Bool) → leb b.match_count j ≡ t → P
    go true e = h (leb-true _ _ e)
    go false e = g (leb-false _ _ e)

-- ---- either order

-- a call on match j whose verdict reads only what is the match's, and that has no entry of another's account
record Local (c : ℕ → Call) : Type 0 where
  verdict : Book → ℕ → Verdict
  runs : (b : Book) (j : ℕ) → step b (c j) ≡ run b j (verdict b j)
  missing : (b : Book) (j : ℕ) → b.match_count ≤ j → verdict b j ≡ no 21
  reads : (b e : Book) (j : ℕ) → Left b e j → verdict e j ≡ verdict b j
  spares : (b : Book) (j k : ℕ) → k ≢ (match_at b j).buyer → k ≢ (match_at b j).seller → Spares k (verdict b j)

pays : Local Call.Pay
unfolding step pay_verdict
pays = record { verdict = pay_verdict; runs = pay_run; missing = λ b j h. rw (le-leb b.match_count j h); reads = pay_left; spares = pay_spares }

hands_over : Local Call.HandOver
unfolding step hand_over_verdict
hands_over = record { verdict = hand_over_verdict; runs = hand_over_run; missing = λ b j h. rw (le-leb b.match_count j h); reads = hand_over_left; spares = hand_over_spares }

-- two calls, on match i and then on match j
module _ {c d : ℕ → Call} (p : Local c) (q : Local d) (b : Book) (i j : ℕ) (a : Apart b j i) where
  spared : (k : ℕ) → is_party b j k ≡ true → i < b.match_count → Spares k (p.verdict b i)
  spared k h g = let n = a k h in p.spares b i k (not_buyer b i g k n) (not_seller b i g k n)

  verdict_left : q.verdict (step b (c i)).book j ≡ q.verdict b j
  verdict_left =
      rw (p.runs b i)
      (by_there b j
      (λ h. q.missing _ j (omega (arith, run_count b i (p.verdict b i))) ∙ sym (q.missing b j h))
      (λ h. by_there b i
      (λ g. rw (p.missing b i g))
      (λ g. q.reads b _ j (run_left b j i (two b j i a h) (p.verdict b i) (spared _ (buyer_is b j h) g) (spared _ (seller_is b j h) g)))))

  then_runs : step (step b (c i)).book (d j) ≡ run (step b (c i)).book j (q.verdict b j)
  then_runs = let e = (step b (c i)).book in q.runs e j ∙ ap (run e j) verdict_left

  answer_left : (step b (d j)).answer ≡ (step (step b (c i)).book (d j)).answer
  answer_left = rw (q.runs b j, then_runs) (run_answer b (step b (c i)).book j (q.verdict b j))

  book_then : (step (step b (c i)).book (d j)).book ≡ (run (run b i (p.verdict b i)).book j (q.verdict b j)).book
  book_then = rw (then_runs, p.runs b i)

  book_both : (run (run b i (p.verdict b i)).book j (q.verdict b j)).book ≡ (run (run b j (q.verdict b j)).book i (p.verdict b i)).book
  book_both = by_there b j (λ h. rw (q.missing b j h)) (λ h. run_both b i j (λ e. two b j i a h (sym e)) _ _)

either : {c d : ℕ → Call} → Local c → Local d → (b : Book) (i j : ℕ) → Apart b i j → EitherOrder step b (c i) (d j)
either p q b i j a =
    let t = turned b i j a in
    record { first = answer_left q p b j i a; second = answer_left p q b i j t; book = book_then p q b i j t ∙ book_both p q b i j t ∙ sym (book_then q p b j i a) }

pub either_order : InEitherOrder step
either_order b r i j a = record { pay = either pays pays b i j a; hand_over = either hands_over hands_over b i j a; pay_and_hand_over = either pays hands_over b i j a }
