-- Lists of calls with their answers, as the definitions compute them. Assumes nothing.
use Rattle.std.specs.Prelude.{◌≡◌, refl, List, [], ◌∷◌, ℕ, replicate, Ok, Err}
use Rattle.factory.specs.declared.Call.{Call}
use Rattle.factory.specs.Types.{Factory, Answer}
use Rattle.factory.specs.Holders.{fresh, making, arrive, leave}
use Rattle.factory.specs.Day.{next_waiting, dispatched, evening, day}
use Rattle.factory.specs.Lists.{step, sum_accepted, claimed, shared_out, uncollected}

-- the answers to a list of calls
unfoldable answers : Factory → List Call → List Answer
answers f [] = []
answers f (c ∷ cs) = (step f c).answer ∷ answers (step f c).factory cs

-- accepted arrivals and departures, "a day's answer", a refusal
abbrev ok : Answer
ok = Answer.Accepted 0

abbrev shares : List ℕ → Answer
shares l = Answer.Shared l

abbrev no : ℕ → Answer
no n = Answer.Refused n

-- "A factory loads a fixed number of units a day, 1 to 1,000"
no_units : making 0 ≡ Err 8
unfolding making
no_units = refl

one_unit : making 1 ≡ Ok (fresh 1)
unfolding making
one_unit = refl

most_units : making 1_000 ≡ Ok (fresh 1_000)
unfolding making
most_units = refl

too_many_units : making 1_001 ≡ Err 8
unfolding making
too_many_units = refl

-- several rounds, a served holder that keeps its place, a leaver in the middle
abbrev rounds : List Call
rounds =
    Call.Arrive 3 ∷ Call.Arrive 1 ∷ Call.Arrive 9 ∷ Call.Arrive 4 ∷ Call.Day ∷ Call.Day ∷ Call.Leave 1 ∷ Call.Day
    ∷ Call.Arrive 7 ∷ Call.Arrive 2 ∷ Call.Leave 0 ∷ Call.Day ∷ Call.Day ∷ []

rounds_answered : answers (fresh 10) rounds
    ≡ ok ∷ ok ∷ ok ∷ ok ∷ shares (3 ∷ 1 ∷ 3 ∷ 3 ∷ []) ∷ shares (0 ∷ 0 ∷ 6 ∷ 1 ∷ []) ∷ ok ∷ shares (0 ∷ 0 ∷ 0 ∷ []) ∷ ok ∷ ok ∷ ok ∷ shares (0 ∷ 0 ∷ 7 ∷ 2 ∷ []) ∷ shares (0 ∷ 0 ∷ 0 ∷ 0 ∷ []) ∷ []
unfolding answers step arrive leave day evening dispatched next_waiting
rounds_answered = refl

-- "Each day starts at the first holder", also where the last day was spent in the middle of a round
abbrev mid_round : List Call
mid_round = Call.Arrive 5 ∷ Call.Arrive 9 ∷ Call.Day ∷ Call.Day ∷ Call.Leave 0 ∷ Call.Day ∷ Call.Leave 0 ∷ Call.Day ∷ []

mid_round_answered : answers (fresh 3) mid_round
    ≡ ok ∷ ok ∷ shares (2 ∷ 1 ∷ []) ∷ shares (2 ∷ 1 ∷ []) ∷ ok ∷ shares (3 ∷ []) ∷ ok ∷ shares [] ∷ []
unfolding answers step arrive leave day evening dispatched next_waiting
mid_round_answered = refl

-- of 14 units claimed 9 are shared out, and the leavers left 1 and 4 uncollected
mid_round_claimed : claimed (fresh 3) mid_round ≡ 14
unfolding sum_accepted step arrive leave day evening dispatched next_waiting
mid_round_claimed = refl

mid_round_shared : shared_out (fresh 3) mid_round ≡ 9
unfolding sum_accepted step arrive leave day evening dispatched next_waiting
mid_round_shared = refl

mid_round_uncollected : uncollected (fresh 3) mid_round ≡ 5
unfolding sum_accepted step arrive leave day evening dispatched next_waiting
mid_round_uncollected = refl

-- "each with 0 to 1,000 units to collect", "an empty place is refused as 6"
limits_answered : answers (fresh 1) (Call.Leave 0 ∷ Call.Arrive 1_000 ∷ Call.Arrive 1_001 ∷ Call.Arrive 0 ∷ Call.Leave 2 ∷ Call.Leave 1 ∷ Call.Leave 1 ∷ Call.Day ∷ [])
    ≡ no 6 ∷ ok ∷ no 8 ∷ ok ∷ no 6 ∷ ok ∷ no 6 ∷ shares (1 ∷ []) ∷ []
unfolding answers step arrive leave day evening dispatched next_waiting
limits_answered = refl

-- "33 when a thirty-third holder arrives, after 8": of 32 holders, one more arrives with a claim in range, one out of it, and one where another has left
full_answered : answers (record { daily = 1; holders = replicate 32 1 }) (Call.Arrive 1_000 ∷ Call.Arrive 1_001 ∷ Call.Leave 31 ∷ Call.Arrive 1_000 ∷ Call.Arrive 0 ∷ []) ≡ no 33 ∷ no 8 ∷ ok ∷ ok ∷ no 33 ∷ []
unfolding answers step arrive leave
full_answered = refl
