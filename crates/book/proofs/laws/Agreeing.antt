-- Pay, with Hand over directly after it in a receipts book without a fault, gives what Settle gives, but for a match that goes to auction. By cases on the
-- tests, the faults, the kind of book and whether it goes there. Assumes nothing.
use Rattle.std.specs.Prelude.{◌≡◌, Bool, not, ◌&&◌, ℕ, ◌<◌, ltb, leb, length, Option, Some, None}
use Rattle.std.proofs.Math.Path.{refl, ap}
use Rattle.std.proofs.Math.Bool.{true, false}
use Rattle.std.proofs.Common.{arith, set-set}
use Rattle.std.proofs.Math.Seq.{get_or-set_same}
use borrow.Author.Tests.{leb-false, lt-leb}
use Rattle.coal.specs.Choice.{pick}
use Rattle.book.specs.Types.{Stage, Match, Book, Outcome}
use Rattle.book.specs.Rows.{blank_match, with_held, is_paired}
use Rattle.book.specs.Tables.{match_at, pay, charge}
use Rattle.book.specs.Answers.{refuse_if, accept, is_accepted}
use Rattle.book.specs.Settlement.{value, buyer_fault, seller_fault, pass_receipts, into_held, to_auction, paid_stage, paid, pay_match, handed, hand_over}
use Rattle.book.specs.Settle.{settle_receipts, settle_board, settled, settle}
use Rattle.book.specs.Agreement.{is_faultless, without_fault, Agrees, Agreement}
use Rattle.book.proofs.laws.Reaching.{sound}

never : (t : Bool) → t && false ≡ false
never true = refl
never false = refl

-- what is to hold of two outcomes, of Pay and of Settle
record Alike (b : Book) (j : ℕ) (o s : Outcome) : Type 0 where
  answer : o.answer ≡ s.answer
  refused : is_accepted o.answer ≡ false → o ≡ s
  unchanged : is_accepted o.answer ≡ false → o.book ≡ b
  with_hand_over : is_accepted o.answer ≡ true → without_fault b j ≡ true → to_auction b j (match_at b j) ≡ false → hand_over o.book j ≡ s
  alone : is_accepted o.answer ≡ true → without_fault b j ≡ false → o ≡ s

module _ (b : Book) (j : ℕ) where
  -- both ask the same: refused with the same number, or on with the test false
  both_ask : (t : Bool) (n : ℕ) {o s : Outcome} → (t ≡ false → Alike b j o s) → Alike b j (refuse_if t n b o) (refuse_if t n b s)
  both_ask true n h = record { answer = refl; refused = λ e. refl; unchanged = λ e. refl; with_hand_over = λ e f g. cc; alone = λ e f. refl }
  both_ask false n h = h refl

  -- ---- without a fault

  -- the match that Pay funded is handed over
  funded : j < b.match_count → j < length b.matches → hand_over (into_held b j (match_at b j) (value b (match_at b j)) Stage.Funded) j ≡ accept 0 (settle_receipts b j (match_at b j) (value b (match_at b j)))
  unfolding hand_over into_held handed settle_receipts pass_receipts value pay charge
  funded p h =
      let m = match_at b j in
      let c = with_held m (value b m) Stage.Funded in
      rw (lt-leb b.match_count j p, get_or-set_same b.matches j c blank_match h, set-set)

  module _ (m : Match) where
    handed_over : j < b.match_count → j < length b.matches → m ≡ match_at b j → (t a : Bool) → a ≡ false → not t && true ≡ true
        → hand_over (into_held b j m (value b m) (pick t Stage.Prepaid (pick a Stage.Awaiting Stage.Funded))) j ≡ accept 0 (pick t (settle_board b j m (value b m)) (settle_receipts b j m (value b m)))
    handed_over p h e true a g f = cc
    handed_over p h e false true g f = cc
    handed_over p h e false false g f = rw e (funded p h)

    prepaid : (t : Bool) (s : Stage) → not t && true ≡ false → into_held b j m (value b m) (pick t Stage.Prepaid s) ≡ pick t (settle_board b j m (value b m)) (settle_receipts b j m (value b m))
    unfolding into_held settle_board
    prepaid true s e = refl
    prepaid false s e = cc

    -- ---- by the faults

    by_faults : j < b.match_count → j < length b.matches → m ≡ match_at b j → to_auction b j m ≡ false → (x y : Option ℕ) → not b.board && (is_faultless x && is_faultless y) ≡ true → hand_over (paid b j m x y) j ≡ accept 0 (settled b j m x y)
    unfolding paid paid_stage settled
    by_faults p h e g None None f = handed_over p h e b.board (to_auction b j m) g f
    by_faults p h e g (Some x) None f = cc (never (not b.board))
    by_faults p h e g None (Some y) f = cc (never (not b.board))
    by_faults p h e g (Some x) (Some y) f = cc (never (not b.board))

    by_faults_alone : (x y : Option ℕ) → not b.board && (is_faultless x && is_faultless y) ≡ false → paid b j m x y ≡ settled b j m x y
    unfolding paid paid_stage settled
    by_faults_alone None None f = prepaid b.board _ f
    by_faults_alone (Some x) None f = refl
    by_faults_alone None (Some y) f = refl
    by_faults_alone (Some x) (Some y) f = refl

  -- of a table that has the match's cell
  pub agrees : (j < b.match_count → j < length b.matches) → Agrees b j
  unfolding pay_match settle without_fault
  agrees h =
      let m = match_at b j in
      let x = buyer_fault b j in
      let y = seller_fault b j in
      let a : Alike b j (pay_match b j) (settle b j) = both_ask (leb b.match_count j) 21 (λ p. both_ask (not (is_paired m.stage)) 22 (λ q. both_ask (ltb b.day m.due) 23 (λ r.
      let there : j < b.match_count = leb-false _ _ p in
      record { answer = refl; refused = λ e. cc; unchanged = λ e. cc; with_hand_over = λ e f g. by_faults m there (h there) refl g x y f; alone = λ e f. ap (accept 0) (by_faults_alone m x y f) }))) in
      search

pub agreement : Agreement
agreement b r j = agrees b j (λ h. let t = (sound r).tables.core.matches in omega (arith, t.size, t.few))
