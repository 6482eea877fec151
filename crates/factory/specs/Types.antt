-- A factory, and what a call on it gives. Assumes nothing.
use Rattle.std.specs.Prelude.{List, ℕ}

-- "A factory loads a fixed number of units a day .. for up to 32 holders in order of appointment, each with 0 to 1,000 units to collect":
-- of each holder, in that order, what it has left to collect
pub record Factory : Type 0 where
  pub daily : ℕ
  pub holders : List ℕ

-- accepted, with the number that it carries; accepted, with "each holder's share"; or refused, with the number of the refusal
pub data Answer : Type 0 where
  Accepted : ℕ → Answer
  Shared : List ℕ → Answer
  Refused : ℕ → Answer

-- what a call gives: its answer, and the factory that it leaves
pub record Outcome : Type 0 where
  pub answer : Answer
  pub factory : Factory
