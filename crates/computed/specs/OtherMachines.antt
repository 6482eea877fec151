-- Machines that are not the book's: each breaks the statement on settling in either order, of two matches with no account in common, at a reached book to which it comes
-- itself by the same calls. Assumes nothing.
use Rattle.std.specs.Prelude.{◌≡◌, refl, true, false, ◌||◌, List, [], ◌∷◌, ◌++◌, ℕ, ◌+◌, ◌<◌, ltb, eqb, nat_abs}
use Rattle.std.proofs.Common.{sym, ap, ◌∙◌, arith, ne_eqb}
use Rattle.coal.specs.Choice.{pick}
use Rattle.heats.specs.Numerators.{heat_table}
use Rattle.heats.proofs.Rising.{printed_table}
use Rattle.book.specs.declared.calls.Call.{Call}
use Rattle.book.specs.declared.matches.Stage.{Stage}
use Rattle.book.specs.declared.tables.Book.{Book}
use Rattle.book.specs.Outcomes.{Answer}
use Rattle.book.specs.Counting.{iter, tally}
use Rattle.book.specs.Rows.{is_paired, is_held}
use Rattle.book.specs.Tables.{account_at, match_at, pay}
use Rattle.book.specs.Answers.{accept, refuse_if, refusal_of}
use Rattle.book.specs.Settlement.{set_stage}
use Rattle.book.specs.Calls.{step}
use Rattle.book.specs.Lists.{Reached, opened, after}
use Rattle.book.specs.EitherOrder.{is_party, Apart, Machine, InEitherOrder}
use Rattle.book.proofs.laws.Counting.{by_eq, impossible}
use Rattle.book.proofs.laws.Steps.{after_reached}
use Rattle.computed.specs.Script.{calls, play, book_of}
use Rattle.computed.specs.EitherOrder.{paired}

-- ---- a book of five matches, of which 3 and 4 are funded

abbrev lines : List Call
lines = calls paired ++ Call.Pay 3 ∷ Call.Pay 4 ∷ []

abbrev funded : Book
funded = after (book_of 0 1 20 100) lines

reached : Reached funded
unfolding play
reached = after_reached (book_of 0 1 20 100) lines (opened heat_table printed_table 0 1 20 100 refl)

parties_0 : (k : ℕ) → is_party funded 0 k ≡ (eqb 0 k || eqb 1 k)
unfolding is_party play after
parties_0 k = refl

parties_1 : (k : ℕ) → is_party funded 1 k ≡ (eqb 2 k || eqb 3 k)
unfolding is_party play after
parties_1 k = refl

parties_3 : (k : ℕ) → is_party funded 3 k ≡ (eqb 6 k || eqb 7 k)
unfolding is_party play after
parties_3 k = refl

parties_4 : (k : ℕ) → is_party funded 4 k ≡ (eqb 8 k || eqb 9 k)
unfolding is_party play after
parties_4 k = refl

-- a number that is no match has none
parties_5 : (k : ℕ) → is_party funded 5 k ≡ false
unfolding is_party play after
parties_5 k = refl

disjoint : (a b c d k : ℕ) → a < c → a < d → b < c → b < d → (eqb a k || eqb b k) ≡ true → (eqb c k || eqb d k) ≡ false
disjoint a b c d k h g o n e =
    by_eq k a
    (λ p. rw (ne_eqb c k (λ q. absurd (omega arith)), ne_eqb d k (λ q. absurd (omega arith))))
    (λ p. by_eq k b
    (λ q. rw (ne_eqb c k (λ r. absurd (omega arith)), ne_eqb d k (λ r. absurd (omega arith))))
    (λ q. impossible (cc (rw (ne_eqb a k (λ r. p (sym r)), ne_eqb b k (λ r. q (sym r))) at e))))

apart_0_1 : Apart funded 0 1
apart_0_1 k e = parties_1 k ∙ disjoint 0 1 2 3 k (omega arith) (omega arith) (omega arith) (omega arith) (sym (parties_0 k) ∙ e)

apart_0_3 : Apart funded 0 3
apart_0_3 k e = parties_3 k ∙ disjoint 0 1 6 7 k (omega arith) (omega arith) (omega arith) (omega arith) (sym (parties_0 k) ∙ e)

apart_3_4 : Apart funded 3 4
apart_3_4 k e = parties_4 k ∙ disjoint 6 7 8 9 k (omega arith) (omega arith) (omega arith) (omega arith) (sym (parties_3 k) ∙ e)

-- the book that a machine leaves after a list of calls
abbrev after_by : Machine → Book → List Call → Book
after_by m b [] = b
after_by m b (c ∷ cs) = after_by m (m b c).book cs

-- ---- penalties that depend on the fund: they grow with it

abbrev with_rate : Book → ℕ → Book
with_rate b r = record { board = b.board; tonnes = b.tonnes; rate = r; heats = b.heats; price = b.price; day = b.day; «open» = b.«open»; fund = b.fund; deposited = b.deposited; accounts = b.accounts; account_count = b.account_count; receipts = b.receipts; receipt_count = b.receipt_count; matches = b.matches; match_count = b.match_count }

by_fund : Machine
by_fund b c = let o = step (with_rate b (b.rate + b.fund)) c in record { answer = o.answer; book = with_rate o.book b.rate }

by_fund_reaches : after_by by_fund (book_of 0 1 20 100) lines ≡ funded
unfolding play after by_fund
by_fund_reaches = refl

-- the buyer of match 1 owes 40 where match 0, both of whose parties are at fault, was paid before it
by_fund_breaks : InEitherOrder by_fund → ⊥
unfolding play after by_fund
by_fund_breaks s = let z : ◌≡◌ {A = ℕ} 40 20 = ap (λ (e : Book). nat_abs (account_at e 2).cash) (s funded reached 0 1 apart_0_1).pay.book in absurd (omega (arith, z))

-- ---- an answer that carries how many matches are still paired

still_paired : Machine
still_paired b c = accept (tally b.match_count 0 (λ j. is_paired (match_at b j).stage)) (step b c).book

still_paired_reaches : after_by still_paired (book_of 0 1 20 100) lines ≡ funded
unfolding play after still_paired
still_paired_reaches = refl

abbrev carried : Answer → ℕ
carried (Answer.Accepted n) = n
carried (Answer.Closed pairs tests gap) = pairs
carried (Answer.Refused n) = 0

first_answer_breaks : InEitherOrder still_paired → ⊥
unfolding play after still_paired
first_answer_breaks s = let z : ◌≡◌ {A = ℕ} 3 2 = ap carried (s funded reached 0 1 apart_0_1).pay.first in absurd (omega (arith, z))

second_answer_breaks : InEitherOrder still_paired → ⊥
unfolding play after still_paired
second_answer_breaks s = let z : ◌≡◌ {A = ℕ} 3 2 = ap carried (s funded reached 0 1 apart_0_1).pay.second in absurd (omega (arith, z))

-- ---- a Hand over that pays every held match

abbrev pay_held : ℕ → Book → Book
pay_held j b = pick (is_held (match_at b j).stage) (set_stage (pay b (match_at b j).seller (match_at b j).held) j 0 Stage.Closed) b

pays_held : Machine
pays_held b (Call.HandOver j) = step (iter b.match_count 0 pay_held b) (Call.HandOver j)
pays_held b c = step b c

pays_held_reaches : after_by pays_held (book_of 0 1 20 100) lines ≡ funded
unfolding play after pays_held
pays_held_reaches = refl

-- of matches 3 and 4 the one that is handed over first is closed by the other
pays_held_breaks : InEitherOrder pays_held → ⊥
unfolding play after pays_held
pays_held_breaks s = let z : ◌≡◌ {A = ℕ} 0 20 = ap (λ (e : Book). (match_at e 3).held) (s funded reached 3 4 apart_3_4).hand_over.book in absurd (omega (arith, z))

-- ---- no call while there is money in the fund

stops : Machine
stops b c = refuse_if (ltb 0 b.fund) 22 b (step b c)

stops_reaches : after_by stops (book_of 0 1 20 100) lines ≡ funded
unfolding play after stops
stops_reaches = refl

stops_breaks : InEitherOrder stops → ⊥
unfolding play after stops
stops_breaks s = let z : ◌≡◌ {A = ℕ} 0 22 = ap refusal_of (s funded reached 0 3 apart_0_3).pay_and_hand_over.second in absurd (omega (arith, z))
