-- "Close can now make up to 125 matches, so the table grows to 256 and Take still stops at 64": of every reached book. By what the passes keep. Assumes nothing.
use Rattle.std.specs.Prelude.{◌≡◌, true, ℕ, ◌+◌, ◌≤◌}
use Rattle.std.proofs.Common.{arith}
use Rattle.book.specs.Types.{Book, Call, Outcome}
use Rattle.book.specs.Answers.{is_accepted}
use Rattle.book.specs.Closing.{lapse_offers}
use Rattle.book.specs.Calls.{step}
use Rattle.book.specs.Lists.{Reached, accepts}
use Rattle.book.proofs.laws.Counting.{impossible}
use Rattle.book.proofs.laws.Answered.{Answered, answered}
use Rattle.book.proofs.laws.Sound.{SoundTables}
use Rattle.book.proofs.laws.Passes.{passes_keep}
use Rattle.book.proofs.laws.Steps.{reached_tables}

-- how many matches an accepted Close makes, the first pass's among them
closed_few : {b : Book} {budget : ℕ} {o : Outcome} → Answered b (Call.Close budget) o → SoundTables b → is_accepted o.answer ≡ true → o.book.match_count ≤ b.match_count + 125
unfolding lapse_offers
closed_few (Answered.refused m p) r e = impossible (cc)
closed_few {b} {budget} (Answered.closes g) r e = (passes_keep (λ (z : Book). Unit {0}) (λ z c x y u s p h. tt) b budget (r.matches_open g.is_open) r.core tt).high_count

pub close_most : {b : Book} → Reached b → (budget : ℕ) → accepts b (Call.Close budget) ≡ true → (step b (Call.Close budget)).book.match_count ≤ b.match_count + 125
close_most {b} h budget = closed_few (answered b (Call.Close budget)) (reached_tables h)

-- the matches of a book: those at which Take stops, and those of a Close
pub matches_most : {b : Book} → Reached b → b.match_count ≤ 64 + 125
matches_most h = omega (arith, (reached_tables h).matches_few)

-- before a Close: "Take still stops at 64"
pub open_most : {b : Book} → Reached b → b.«open» ≡ true → b.match_count ≤ 64
open_most h = (reached_tables h).matches_open
