-- A match between Pay and Hand over, or between Pay and Auction, the statement, in the words of document 02, Jobs 6 and 7. Assumes nothing.
use Rattle.std.specs.Prelude.{◌≡◌, true, false, ℕ, ◌<◌}
use Rattle.book.specs.Types.{ReceiptState, Book}
use Rattle.book.specs.Rows.{is_paid_for}
use Rattle.book.specs.Tables.{receipt_at, match_at, frozen_receipts}
use Rattle.book.specs.Settlement.{value}
use Rattle.book.specs.Lists.{Reached}

pub record PaidFor (b : Book) (j : ℕ) : Type 0 where
  -- "In a receipts book it gives the new stage 5, funded"; only such a book has receipts to auction
  pub receipts_book : b.board ≡ false
  -- "otherwise moves V into money held"; "in stage 6, awaiting auction, with V held"
  pub value_held : (match_at b j).held ≡ value b (match_at b j)
  -- "Hand over .. passes the receipts": until then as many as its units are frozen for it; "receipts stay frozen while a match awaits auction"
  pub all_frozen : frozen_receipts b j ≡ (match_at b j).units
  -- and "belongs to that match's seller"
  pub sellers : (i : ℕ) → i < b.receipt_count → (receipt_at b i).state ≡ ReceiptState.Frozen j → (receipt_at b i).owner ≡ (match_at b j).seller

-- of every reached book and every match of it that is funded or awaits auction
abbrev pub EachPaidFor : Type 0
EachPaidFor = (b : Book) → Reached b → (j : ℕ) → j < b.match_count → is_paid_for (match_at b j).stage ≡ true → PaidFor b j
