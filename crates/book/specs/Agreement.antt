-- Pay and Hand over against Settle, the statement, in the words of document 02, Jobs 6 and 7. Assumes nothing.
use Rattle.std.specs.Prelude.{◌≡◌, Bool, true, false, not, ◌&&◌, ℕ, Option, Some, None}
use Rattle.book.specs.Types.{Book}
use Rattle.book.specs.Tables.{match_at}
use Rattle.book.specs.Answers.{is_accepted}
use Rattle.book.specs.Settlement.{buyer_fault, seller_fault, to_auction, pay_match, hand_over}
use Rattle.book.specs.Settle.{settle}
use Rattle.book.specs.Lists.{Reached}

abbrev pub is_faultless : Option ℕ → Bool
is_faultless None = true
is_faultless (Some x) = false

-- match j is "in a receipts book without a fault"
unfoldable pub without_fault : Book → ℕ → Bool
without_fault b j = not b.board && (is_faultless (buyer_fault b j) && is_faultless (seller_fault b j))

pub record Agrees (b : Book) (j : ℕ) : Type 0 where
  -- "Pay is refused as Settle was": both get one answer, with one number
  pub answer : (pay_match b j).answer ≡ (settle b j).answer
  -- and a refused one leaves the book that Settle leaves, which is the book as it was
  pub refused : is_accepted (pay_match b j).answer ≡ false → pay_match b j ≡ settle b j
  pub unchanged : is_accepted (pay_match b j).answer ≡ false → (pay_match b j).book ≡ b
  -- "an accepted Pay gives what Settle gave, in a receipts book without a fault once Hand over of that match directly follows"; a match that awaits
  -- auction "is outside the agreement of Pay and Hand over with Settle"
  pub with_hand_over : is_accepted (pay_match b j).answer ≡ true → without_fault b j ≡ true → to_auction b j (match_at b j) ≡ false → hand_over (pay_match b j).book j ≡ settle b j
  -- "else alone"
  pub alone : is_accepted (pay_match b j).answer ≡ true → without_fault b j ≡ false → pay_match b j ≡ settle b j

-- of every reached book and every number, of a match or not
abbrev pub Agreement : Type 0
Agreement = (b : Book) → Reached b → (j : ℕ) → Agrees b j
