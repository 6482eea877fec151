-- What a call gives: its answer, and the book that it leaves. Assumes nothing.
use Rattle.std.specs.Prelude.{ℕ}
use Rattle.book.specs.declared.tables.Book.{Book}

-- "`ok n`" or "`no n`": accepted, with the number that it carries, or refused, with the number of the refusal;
-- "Close carries pairs made, tests made and a gap, printed in that order"
pub data Answer : Type 0 where
  Accepted : ℕ → Answer
  Closed : (pairs tests gap : ℕ) → Answer
  Refused : ℕ → Answer

pub record Outcome : Type 0 where
  pub answer : Answer
  pub book : Book
