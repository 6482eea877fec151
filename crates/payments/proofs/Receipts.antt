-- The receipts in use, turned apart from the rest of the table. Assumes nothing.
use Rattle.std.specs.Prelude.{◌≡◌, List, ℕ, ◌++◌, length, take, drop}
use Rattle.book.specs.declared.receipts.Receipt.{Receipt}
use Rattle.book.specs.Counting.{iter}
use Rattle.book.specs.Rows.{blank_receipt, passed}
use Rattle.book.specs.Settlement.{pass_turn}
use Rattle.reached.specs.Loops.{table_turned}

pub receipts_passed : (j k n : ℕ) (l r : List Receipt) → r ≡ iter (length (take n l)) 0 (pass_turn j k) (take n l) → r ++ drop n l ≡ iter n 0 (pass_turn j k) l
unfolding pass_turn
receipts_passed j k n l r e = table_turned (passed j k) blank_receipt n l r e
