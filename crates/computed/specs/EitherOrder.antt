-- Five matches with no account in common, and a number that is no match, settled in rising and in falling order: one whose parties are both at fault, one whose buyer
-- lacks cash, one that goes to auction, and two that are funded and handed over. And two matches of one buyer, whose cash is enough for one. Assumes nothing.
use Rattle.std.specs.Prelude.{◌≡◌, refl, List, [], ◌∷◌, ◌++◌, ℕ, pos}
use Rattle.std.proofs.Common.{ap, arith}
use Rattle.book.specs.declared.tables.Book.{Book}
use Rattle.book.specs.declared.calls.Call.{Call}
use Rattle.book.specs.Tables.{match_at}
use Rattle.book.specs.Calls.{step}
use Rattle.book.specs.Lists.{after}
use Rattle.book.specs.EitherOrder.{EitherOrder}
use Rattle.computed.specs.Script.{Line, line, ok, closed, no, owes, calls, play, book_of, Row, account, receipt, matched, fund, ledger_after}

-- ---- five matches with no account in common, each of one unit, worth 100 fen

abbrev pub paired : List Line
paired =
    line (Call.Join 0 0) (ok 0)
    ∷ line (Call.Join 0 0) (ok 1)
    ∷ line (Call.Join 0 1) (ok 2)
    ∷ line (Call.Join 0 1) (ok 3)
    ∷ line (Call.Join 1 1) (ok 4)
    ∷ line (Call.Join 0 1) (ok 5)
    ∷ line (Call.Join 0 1) (ok 6)
    ∷ line (Call.Join 0 1) (ok 7)
    ∷ line (Call.Join 0 1) (ok 8)
    ∷ line (Call.Join 0 1) (ok 9)
    ∷ line (Call.Deposit 4 100) (ok 0)
    ∷ line (Call.Deposit 6 100) (ok 0)
    ∷ line (Call.Deposit 8 100) (ok 0)
    ∷ line (Call.Lodge 3 0) (ok 0)
    ∷ line (Call.Lodge 5 0) (ok 1)
    ∷ line (Call.Lodge 7 0) (ok 2)
    ∷ line (Call.Lodge 9 0) (ok 3)
    ∷ line (Call.Trade 0 1 1) (ok 0)
    ∷ line (Call.Trade 2 3 1) (ok 0)
    ∷ line (Call.Trade 4 5 1) (ok 0)
    ∷ line (Call.Trade 6 7 1) (ok 0)
    ∷ line (Call.Trade 8 9 1) (ok 0)
    ∷ line (Call.Close 0) (closed 5 0 0)
    ∷ line (Call.Day 100) (ok 1)
    ∷ []

abbrev rising : List Line
rising =
    line (Call.Pay 0) (ok 0)
    ∷ line (Call.Pay 1) (ok 0)
    ∷ line (Call.Pay 2) (ok 0)
    ∷ line (Call.Pay 3) (ok 0)
    ∷ line (Call.Pay 4) (ok 0)
    ∷ line (Call.Pay 5) (no 21)
    ∷ line (Call.HandOver 2) (no 22)
    ∷ line (Call.HandOver 3) (ok 0)
    ∷ line (Call.HandOver 4) (ok 0)
    ∷ []

abbrev falling : List Line
falling =
    line (Call.Pay 5) (no 21)
    ∷ line (Call.Pay 4) (ok 0)
    ∷ line (Call.Pay 3) (ok 0)
    ∷ line (Call.Pay 2) (ok 0)
    ∷ line (Call.Pay 1) (ok 0)
    ∷ line (Call.Pay 0) (ok 0)
    ∷ line (Call.HandOver 4) (ok 0)
    ∷ line (Call.HandOver 3) (ok 0)
    ∷ line (Call.HandOver 2) (no 22)
    ∷ []

rising_answers : play 0 1 20 100 (paired ++ rising) ≡ paired ++ rising
unfolding play
rising_answers = refl

falling_answers : play 0 1 20 100 (paired ++ falling) ≡ paired ++ falling
unfolding play
falling_answers = refl

settled : List Row
settled =
    account 0 (owes 10) 0 0
    ∷ account 1 (owes 10) 0 0
    ∷ account 2 (owes 20) 0 0
    ∷ account 3 (pos 20) 0 0
    ∷ account 4 (pos 0) 0 0
    ∷ account 5 (pos 0) 0 0
    ∷ account 6 (pos 0) 0 0
    ∷ account 7 (pos 80) 0 0
    ∷ account 8 (pos 0) 0 0
    ∷ account 9 (pos 80) 0 0
    ∷ receipt 0 3 0 0
    ∷ receipt 1 5 0 1
    ∷ receipt 2 6 0 0
    ∷ receipt 3 8 0 0
    ∷ matched 0 0 1 1 100 4 0
    ∷ matched 1 2 3 1 100 4 0
    ∷ matched 2 4 5 1 100 6 100
    ∷ matched 3 6 7 1 100 2 20
    ∷ matched 4 8 9 1 100 2 20
    ∷ fund 20
    ∷ []

in_rising_order : ledger_after 0 1 20 100 (paired ++ rising) ≡ settled
unfolding ledger_after settled
in_rising_order = refl

in_falling_order : ledger_after 0 1 20 100 (paired ++ falling) ≡ settled
unfolding ledger_after settled
in_falling_order = refl

-- ---- an account in common

-- of matches 0 and 1 account 0 is the buyer, with cash for one
abbrev shared : List Line
shared =
    line (Call.Join 0 1) (ok 0)
    ∷ line (Call.Join 0 1) (ok 1)
    ∷ line (Call.Join 0 1) (ok 2)
    ∷ line (Call.Deposit 0 100) (ok 0)
    ∷ line (Call.Lodge 1 0) (ok 0)
    ∷ line (Call.Lodge 2 0) (ok 1)
    ∷ line (Call.Trade 0 1 1) (ok 0)
    ∷ line (Call.Trade 0 2 1) (ok 0)
    ∷ line (Call.Close 0) (closed 2 0 0)
    ∷ line (Call.Day 100) (ok 1)
    ∷ []

shared_answers : play 0 1 20 100 shared ≡ shared
unfolding play
shared_answers = refl

-- match 0 is funded where it is paid first, and ended with a fault where it is paid second
in_common : EitherOrder step (after (book_of 0 1 20 100) (calls shared)) (Call.Pay 0) (Call.Pay 1) → ⊥
unfolding play after
in_common o = let z : ◌≡◌ {A = ℕ} 100 0 = ap (λ (b : Book). (match_at b 0).held) o.book in absurd (omega (arith, z))
