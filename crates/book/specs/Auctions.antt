-- Which matches Pay puts to auction, the statement, in the words of document 02, Job 7. Assumes nothing.
use Rattle.std.specs.Prelude.{◌≡◌, true, false, ℕ, ◌<◌}
use Rattle.book.specs.Types.{ReceiptState, Stage, Book}
use Rattle.book.specs.Tables.{account_at, receipt_at, match_at}
use Rattle.book.specs.Answers.{is_accepted}
use Rattle.book.specs.Settlement.{pay_match}
use Rattle.book.specs.Lists.{Reached}
use Rattle.book.specs.Agreement.{without_fault}

-- the stage in which Pay puts match j
abbrev pub stage_paid : Book → ℕ → Stage
stage_paid b j = (match_at (pay_match b j).book j).stage

pub record Auctioned (b : Book) (j : ℕ) : Type 0 where
  -- "puts a match of an overseas buyer with any ordinary receipt in stage 6, awaiting auction": one ordinary receipt among those frozen for it is enough
  pub any_ordinary : (account_at b (match_at b j).buyer).overseas ≡ true → (i : ℕ) → i < b.receipt_count → (receipt_at b i).state ≡ ReceiptState.Frozen j → (receipt_at b i).bonded ≡ false → stage_paid b j ≡ Stage.Awaiting
  -- and no other match: not a domestic buyer's, and not one whose receipts are all bonded
  pub domestic : (account_at b (match_at b j).buyer).overseas ≡ false → stage_paid b j ≡ Stage.Funded
  pub all_bonded : ((i : ℕ) → i < b.receipt_count → (receipt_at b i).state ≡ ReceiptState.Frozen j → (receipt_at b i).bonded ≡ true) → stage_paid b j ≡ Stage.Funded

-- of every reached book and every match that an accepted Pay finds in a receipts book without a fault
abbrev pub Auctions : Type 0
Auctions = (b : Book) → Reached b → (j : ℕ) → is_accepted (pay_match b j).answer ≡ true → without_fault b j ≡ true → Auctioned b j
