-- Settling in either order, the statement, in the words of document 02, Job 12: "Two clerks settle different matches side by side." Assumes nothing.
use Rattle.std.specs.Prelude.{◌≡◌, Bool, true, false, ◌&&◌, ◌||◌, ℕ, ltb, eqb}
use Rattle.book.specs.Types.{Book, Outcome, Call}
use Rattle.book.specs.Tables.{match_at}
use Rattle.book.specs.Lists.{Reached}

-- account k is a party of match j: its "buyer" or its "seller". A number that is no match has no party
unfoldable pub is_party : Book → ℕ → ℕ → Bool
is_party b j k = ltb j b.match_count && (eqb (match_at b j).buyer k || eqb (match_at b j).seller k)

-- "any two matches with no account in common": no account is a party of both. So they are two, since a match has its own accounts in common with itself
abbrev pub Apart : Book → ℕ → ℕ → Type 0
Apart b i j = (k : ℕ) → is_party b i k ≡ true → is_party b j k ≡ false

-- a machine, such as the book's, `step`: the answer to a call, and the book that it leaves
abbrev pub Machine : Type 0
Machine = Book → Call → Outcome

-- two calls c and d on a book give "the same two answers and the same book in either order"
pub record EitherOrder (m : Machine) (b : Book) (c d : Call) : Type 0 where
  -- each its own answer, whether it comes first or second
  pub first : (m b c).answer ≡ (m (m b d).book c).answer
  pub second : (m b d).answer ≡ (m (m b c).book d).answer
  -- and the whole book is the same
  pub book : (m (m b c).book d).book ≡ (m (m b d).book c).book

pub record Settling (m : Machine) (b : Book) (i j : ℕ) : Type 0 where
  -- "Pay on both", "defaults included"
  pub pay : EitherOrder m b (Call.Pay i) (Call.Pay j)
  -- "The same is wanted for Hand over"
  pub hand_over : EitherOrder m b (Call.HandOver i) (Call.HandOver j)
  -- and of Pay on one with Hand over on the other
  pub pay_and_hand_over : EitherOrder m b (Call.Pay i) (Call.HandOver j)

-- "For every book reached by a list of calls, and any two matches with no account in common"
abbrev pub InEitherOrder : Machine → Type 0
InEitherOrder m = (b : Book) → Reached b → (i j : ℕ) → Apart b i j → Settling m b i j
