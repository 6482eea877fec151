-- Lists of calls: each gets the factory that the one before it left. Assumes nothing.
use Rattle.std.specs.Prelude.{◌≡◌, Bool, cond, List, [], ◌∷◌, ℕ, ◌+◌, get_or, sum, Ok}
use Rattle.factory.specs.declared.Call.{Call}
use Rattle.factory.specs.Types.{Factory, Answer, Outcome}
use Rattle.factory.specs.Answers.{is_accepted}
use Rattle.factory.specs.Holders.{making, arrive, leave}
use Rattle.factory.specs.Day.{day}

-- a call, by what it does
unfoldable pub step : Factory → Call → Outcome
step f (Call.Arrive claim) = arrive f claim
step f (Call.Leave place) = leave f place
step f Call.Day = day f

-- the factory after a list of calls
unfoldable pub after : Factory → List Call → Factory
after f [] = f
after f (c ∷ cs) = after (step f c).factory cs

-- a factory reached from an accepted making by calls
pub data Reached : Factory → Type 0 where
  made : (daily : ℕ) (f : Factory) → making daily ≡ Ok f → Reached f
  called : {f : Factory} (c : Call) → Reached f → Reached (step f c).factory

-- call c is accepted by factory f
abbrev pub accepts : Factory → Call → Bool
accepts f c = is_accepted (step f c).answer

-- g of each accepted call and of the factory just before it, added up
unfoldable pub sum_accepted : (Factory → Call → ℕ) → Factory → List Call → ℕ
sum_accepted g f [] = 0
sum_accepted g f (c ∷ cs) = cond (accepts f c) (g f c) 0 + sum_accepted g (step f c).factory cs

-- what a call claims: from the call alone
abbrev pub claim_of : Factory → Call → ℕ
claim_of f (Call.Arrive claim) = claim
claim_of f (Call.Leave place) = 0
claim_of f Call.Day = 0

-- what a call shares out: from its answer alone
abbrev pub shares_of : Answer → List ℕ
shares_of (Answer.Accepted n) = []
shares_of (Answer.Shared shares) = shares
shares_of (Answer.Refused n) = []

-- what a leaver leaves uncollected: from the factory just before
abbrev pub uncollected_of : Factory → Call → ℕ
uncollected_of f (Call.Arrive claim) = 0
uncollected_of f (Call.Leave place) = get_or f.holders place 0
uncollected_of f Call.Day = 0

-- "the units claimed on accepted arrivals"
abbrev pub claimed : Factory → List Call → ℕ
claimed f cs = sum_accepted claim_of f cs

-- "those shared out"
abbrev pub shared_out : Factory → List Call → ℕ
shared_out f cs = sum_accepted (λ g c. sum (shares_of (step g c).answer)) f cs

-- "those that leavers left uncollected"
abbrev pub uncollected : Factory → List Call → ℕ
uncollected f cs = sum_accepted uncollected_of f cs

-- "those still waiting"
abbrev pub waiting : Factory → ℕ
waiting f = sum f.holders
