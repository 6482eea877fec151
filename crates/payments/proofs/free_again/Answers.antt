-- The receipts in use, turned, with the rest of the table. Assumes nothing.
use Rattle.book.specs.Rows.{blank_receipt, released}
use Rattle.book.specs.Settlement.{free_again, release_turn}
use Rattle.reached.specs.Loops.{all_turned, table_turned}
use Rattle.payments.proofs.free_again.Goals as goal

pub returns : goal.returns
unfolding free_again release_turn
returns c = rw (table_turned (released c.args.number) blank_receipt _ _ _ (all_turned c.loop-receipt.invariant c.loop-receipt-test.false))
