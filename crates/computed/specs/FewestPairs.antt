-- Close with a budget of balance tests: what it carries, the masks that it chooses and the matches that it makes. Assumes nothing.
use Rattle.std.specs.Prelude.{◌≡◌, refl, List, [], ◌∷◌, ◌++◌, ℕ}
use Rattle.book.specs.declared.calls.Call.{Call}
use Rattle.book.specs.Outcomes.{Answer}
use Rattle.book.specs.Closing.{first_pass, chosen}
use Rattle.book.specs.Calls.{step}
use Rattle.book.specs.Lists.{after}
use Rattle.computed.specs.Script.{no, closed, each, times, Row, matched, match_row, book_of, play}

pub record Shown : Type 0 where
  pub answer : Answer
  pub masks : List ℕ
  pub matches : List Row

-- Close after these calls, of a receipts book or a board book
unfoldable shown : ℕ → List Call → ℕ → Shown
unfolding play after
shown kind cs budget =
    let b = after (book_of kind 5 20 600_000) cs in
    let o = step b (Call.Close budget) in
    record { answer = o.answer; masks = chosen (first_pass b) budget; matches = each o.book.match_count 0 (match_row o.book) }

-- n accounts that join
abbrev joins : ℕ → List Call
joins n = times n (Call.Join 0 1)

-- document 01's worked session: "now has `12 0`, answered `ok 1 0 0`"
worked : shown 0 (Call.Join 0 1 ∷ Call.Join 1 1 ∷ Call.Deposit 1 7_000_000 ∷ Call.Trade 1 0 2 ∷ Call.Lodge 0 1 ∷ Call.Lodge 0 0 ∷ []) 0
    ≡ record { answer = closed 1 0 0; masks = []; matches = matched 0 1 0 1 600_000 0 0 ∷ matched 1 1 0 1 600_000 0 0 ∷ [] }
unfolding shown
worked = refl

-- buyers of 3, 5, 4 and 6 units, sellers of 7 and 11
abbrev six : List Call
six = joins 6 ++ Call.Trade 0 4 3 ∷ Call.Trade 2 4 4 ∷ Call.Trade 1 5 5 ∷ Call.Trade 3 5 6 ∷ []

-- every mask tested: two groups, four pairs
all_tested : shown 1 six 1_023
    ≡ record { answer = closed 4 63 0; masks = 21 ∷ 42 ∷ []; matches = matched 0 0 4 3 600_000 0 0 ∷ matched 1 2 4 4 600_000 0 0 ∷ matched 2 1 5 5 600_000 0 0 ∷ matched 3 3 5 6 600_000 0 0 ∷ [] }
unfolding shown
all_tested = refl

-- one mask fewer: the last, of everybody, is balanced too, but the gap is pairs less buyers
last_untested : shown 1 six 62
    ≡ record { answer = closed 4 62 0; masks = 21 ∷ 42 ∷ []; matches = matched 0 0 4 3 600_000 0 0 ∷ matched 1 2 4 4 600_000 0 0 ∷ matched 2 1 5 5 600_000 0 0 ∷ matched 3 3 5 6 600_000 0 0 ∷ [] }
unfolding shown
last_untested = refl

-- the first group and the rest
one_found : shown 1 six 21 ≡ record { answer = closed 4 21 0; masks = 21 ∷ []; matches = matched 0 0 4 3 600_000 0 0 ∷ matched 1 2 4 4 600_000 0 0 ∷ matched 2 1 5 5 600_000 0 0 ∷ matched 3 3 5 6 600_000 0 0 ∷ [] }
unfolding shown
one_found = refl

-- no group: the old passes stand, one pair above the larger of buyers and sellers
none_found : shown 1 six 20
    ≡ record { answer = closed 5 20 1; masks = []; matches = matched 0 0 4 3 600_000 0 0 ∷ matched 1 1 4 4 600_000 0 0 ∷ matched 2 1 5 1 600_000 0 0 ∷ matched 3 2 5 4 600_000 0 0 ∷ matched 4 3 5 6 600_000 0 0 ∷ [] }
unfolding shown
none_found = refl

-- nobody left; a budget outside its range; a shut market
nobody : shown 1 [] 1_023 ≡ record { answer = closed 0 0 0; masks = []; matches = [] }
unfolding shown
nobody = refl

too_many : shown 1 [] 1_024 ≡ record { answer = no 8; masks = []; matches = [] }
unfolding shown
too_many = refl

shut : shown 1 (Call.Close 0 ∷ []) 1_024 ≡ record { answer = no 5; masks = []; matches = [] }
unfolding shown
shut = refl

-- account 1 has no units, so the bits are those of 0, 2, 3, 4, 5 and 6: mask 25 is the group of 0, 4 and 5
holes : shown 1 (joins 7 ++ Call.Trade 6 3 82 ∷ Call.Trade 6 2 33 ∷ Call.Trade 0 4 5 ∷ Call.Trade 0 5 70 ∷ []) 25
    ≡ record { answer = closed 4 25 0; masks = 25 ∷ []; matches = matched 0 0 4 5 600_000 0 0 ∷ matched 1 0 5 70 600_000 0 0 ∷ matched 2 6 2 33 600_000 0 0 ∷ matched 3 6 3 82 600_000 0 0 ∷ [] }
unfolding shown
holes = refl

-- three groups, and of the lists of three the first
tie : shown 1 (joins 10 ++ Call.Trade 4 3 1 ∷ Call.Trade 4 9 4 ∷ Call.Trade 4 0 1 ∷ Call.Trade 5 6 1 ∷ Call.Trade 8 6 3 ∷ Call.Trade 8 2 2 ∷ Call.Trade 1 2 2 ∷ Call.Trade 1 7 2 ∷ []) 443
    ≡ record { answer = closed 6 443 0; masks = 6 ∷ 33 ∷ 208 ∷ []; matches = matched 0 1 2 4 600_000 0 0 ∷ matched 1 5 0 1 600_000 0 0 ∷ matched 2 4 6 4 600_000 0 0 ∷ matched 3 4 7 2 600_000 0 0 ∷ matched 4 8 3 1 600_000 0 0 ∷ matched 5 8 9 4 600_000 0 0 ∷ [] }
unfolding shown
tie = refl

-- eleven accounts: none is tested, and the old passes stand
eleven : shown 1 (joins 11 ++ Call.Trade 7 0 3 ∷ Call.Trade 1 0 1 ∷ Call.Trade 1 9 1 ∷ Call.Trade 1 8 1 ∷ Call.Trade 5 8 2 ∷ Call.Trade 4 8 2 ∷ Call.Trade 3 2 1 ∷ Call.Trade 6 2 1 ∷ Call.Trade 10 2 3 ∷ []) 1_023
    ≡ record { answer = closed 9 0 2; masks = []; matches = matched 0 3 9 1 600_000 0 0 ∷ matched 1 1 0 3 600_000 0 0 ∷ matched 2 4 0 1 600_000 0 0 ∷ matched 3 4 2 1 600_000 0 0 ∷ matched 4 5 2 2 600_000 0 0 ∷ matched 5 6 2 1 600_000 0 0 ∷ matched 6 7 2 1 600_000 0 0 ∷ matched 7 7 8 2 600_000 0 0 ∷ matched 8 10 8 3 600_000 0 0 ∷ [] }
unfolding shown
eleven = refl

-- no mask chosen: the plain walk over everybody makes fewer pairs than the old passes
plain_walk : shown 1 (joins 9 ++ Call.Trade 0 4 1 ∷ Call.Trade 1 4 2 ∷ Call.Trade 2 5 4 ∷ Call.Trade 2 6 6 ∷ Call.Trade 3 7 1 ∷ Call.Trade 3 8 4 ∷ []) 0
    ≡ record { answer = closed 6 0 1; masks = []; matches = matched 0 0 4 1 600_000 0 0 ∷ matched 1 1 4 2 600_000 0 0 ∷ matched 2 2 5 4 600_000 0 0 ∷ matched 3 2 6 6 600_000 0 0 ∷ matched 4 3 7 1 600_000 0 0 ∷ matched 5 3 8 4 600_000 0 0 ∷ [] }
unfolding shown
plain_walk = refl

-- a plan of as many pairs as the old passes doesn't stand
as_many : shown 1 (joins 9 ++ Call.Trade 8 3 1 ∷ Call.Trade 2 5 1 ∷ Call.Trade 2 0 1 ∷ Call.Trade 2 6 2 ∷ Call.Trade 1 6 4 ∷ Call.Trade 7 6 2 ∷ Call.Trade 4 6 1 ∷ []) 1_023
    ≡ record { answer = closed 6 511 0; masks = 17 ∷ 168 ∷ 326 ∷ []; matches = matched 0 4 0 1 600_000 0 0 ∷ matched 1 8 3 1 600_000 0 0 ∷ matched 2 1 5 1 600_000 0 0 ∷ matched 3 1 6 3 600_000 0 0 ∷ matched 4 2 6 4 600_000 0 0 ∷ matched 5 7 6 2 600_000 0 0 ∷ [] }
unfolding shown
as_many = refl

-- a receipts book: the first pass, then a plan that freezes ordinary receipts
after_first : shown 0 (joins 9 ++ Call.Join 1 1 ∷ Call.Join 1 1 ∷ Call.Join 0 1 ∷ Call.Trade 9 1 2 ∷ Call.Trade 8 5 1 ∷ Call.Trade 8 3 2 ∷ Call.Trade 11 3 2 ∷ Call.Trade 7 6 1 ∷ Call.Trade 4 6 1 ∷ Call.Trade 0 6 2 ∷ Call.Trade 10 6 2 ∷ Call.Lodge 5 1 ∷ Call.Lodge 6 1 ∷ Call.Lodge 6 0 ∷ Call.Lodge 6 0 ∷ Call.Lodge 6 1 ∷ []) 400
    ≡ record { answer = closed 6 400 0; masks = 3 ∷ 112 ∷ 396 ∷ []; matches = matched 0 9 5 1 600_000 0 0 ∷ matched 1 9 6 1 600_000 0 0 ∷ matched 2 10 6 1 600_000 0 0 ∷ matched 3 0 1 2 600_000 0 0 ∷ matched 4 7 6 1 600_000 0 0 ∷ matched 5 8 6 3 600_000 0 0 ∷ matched 6 4 3 1 600_000 0 0 ∷ matched 7 10 3 1 600_000 0 0 ∷ matched 8 11 3 2 600_000 0 0 ∷ [] }
unfolding shown
after_first = refl
