-- The limits of the opening, of the tables, of the day and of deposits, from both sides: refusals 1, 2, 3, 16, 20 and 25. Assumes nothing.
use Rattle.std.specs.Prelude.{◌≡◌, refl, List, [], ◌∷◌, ◌++◌}
use Rattle.book.specs.declared.calls.Call.{Call}
use Rattle.book.specs.Outcomes.{Answer}
use Rattle.heats.specs.Numerators.{heat_table}
use Rattle.book.specs.Opening.{opening}
use Rattle.computed.specs.Script.{ok, no, times, rounds, then_answers}

-- "1 opening value .. out of range": kind, T, R and price, the last value within and the first outside
abbrev opened : List Answer
opened =
    (opening heat_table 0 1 0 1).answer ∷ (opening heat_table 1 20_000 100 1_000_000).answer
    ∷ (opening heat_table 2 1 0 1).answer
    ∷ (opening heat_table 0 0 0 1).answer ∷ (opening heat_table 0 20_001 0 1).answer
    ∷ (opening heat_table 0 1 101 1).answer
    ∷ (opening heat_table 0 1 0 0).answer ∷ (opening heat_table 0 1 0 1_000_001).answer
    ∷ []

openings : opened ≡ ok 0 ∷ ok 0 ∷ no 1 ∷ no 1 ∷ no 1 ∷ no 1 ∷ no 1 ∷ no 1 ∷ []
unfolding opening
openings = refl

-- "2 Day at day 1,000"
last_day : then_answers 0 1 0 1 (times 999 (Call.Day 1)) (Call.Day 1) ≡ ok 1_000
unfolding then_answers
last_day = refl

past_last_day : then_answers 0 1 0 1 (times 1_000 (Call.Day 1)) (Call.Day 1) ≡ no 2
unfolding then_answers
past_last_day = refl

-- "3 Join with 32 accounts"
last_account : then_answers 0 1 0 1 (times 31 (Call.Join 0 0)) (Call.Join 0 0) ≡ ok 31
unfolding then_answers
last_account = refl

no_more_accounts : then_answers 0 1 0 1 (times 32 (Call.Join 0 0)) (Call.Join 0 0) ≡ no 3
unfolding then_answers
no_more_accounts = refl

-- "16 Lodge with 256 lodged"
last_receipt : then_answers 0 1 0 1 (Call.Join 0 0 ∷ times 255 (Call.Lodge 0 0)) (Call.Lodge 0 0) ≡ ok 255
unfolding then_answers
last_receipt = refl

no_more_receipts : then_answers 0 1 0 1 (Call.Join 0 0 ∷ times 256 (Call.Lodge 0 0)) (Call.Lodge 0 0) ≡ no 16
unfolding then_answers
no_more_receipts = refl

-- one unit traded, lodged and offered
abbrev offered : List Call
offered = Call.Trade 0 1 1 ∷ Call.Lodge 1 0 ∷ Call.Offer 1 1 ∷ []

-- "20 Take with 64 matches"
last_take : then_answers 0 1 0 1 (times 2 (Call.Join 0 0) ++ rounds 63 (offered ++ Call.Take 0 1 ∷ []) ++ offered) (Call.Take 0 1) ≡ ok 63
unfolding then_answers
last_take = refl

no_more_takes : then_answers 0 1 0 1 (times 2 (Call.Join 0 0) ++ rounds 64 (offered ++ Call.Take 0 1 ∷ []) ++ offered) (Call.Take 0 1) ≡ no 20
unfolding then_answers
no_more_takes = refl

-- "25 deposits accepted would pass 10^17"
last_deposit : then_answers 0 1 0 1 (Call.Join 0 0 ∷ times 99 (Call.Deposit 0 1_000_000_000_000_000)) (Call.Deposit 0 1_000_000_000_000_000) ≡ ok 0
unfolding then_answers
last_deposit = refl

no_more_deposits : then_answers 0 1 0 1 (Call.Join 0 0 ∷ times 100 (Call.Deposit 0 1_000_000_000_000_000)) (Call.Deposit 0 1) ≡ no 25
unfolding then_answers
no_more_deposits = refl
