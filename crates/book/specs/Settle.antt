-- Settle, in the words of document 01. It is no call of the book: it stands here for what Pay and Hand over are to agree with. Assumes nothing.
use Rattle.std.specs.Prelude.{not, ℕ, ◌-◌, ltb, leb, Option, Some, None}
use Rattle.coal.specs.Choice.{pick}
use Rattle.book.specs.Types.{Stage, Match, Book, Outcome}
use Rattle.book.specs.Rows.{is_paired}
use Rattle.book.specs.Tables.{match_at, pay, charge}
use Rattle.book.specs.Answers.{refuse_if, accept}
use Rattle.book.specs.Settlement.{value, seller_fault, buyer_fault, set_stage, first_part, pass_receipts, fault_ended}

-- "Without fault the buyer pays V. Receipts book: seller gets 80% of V, down, the rest is held; the receipts pass to the buyer, free; stage held."
unfoldable pub settle_receipts : Book → ℕ → Match → ℕ → Book
settle_receipts b j m v =
    pass_receipts (set_stage (pay (charge b m.buyer v) m.seller (first_part v)) j (v - first_part v) Stage.Held) j m.buyer

-- "Board book: V is held; stage prepaid."
unfoldable pub settle_board : Book → ℕ → Match → ℕ → Book
settle_board b j m v = set_stage (charge b m.buyer v) j v Stage.Prepaid

-- by the buyer's fault and the seller's
unfoldable pub settled : Book → ℕ → Match → Option ℕ → Option ℕ → Book
settled b j m None None = pick b.board (settle_board b j m (value b m)) (settle_receipts b j m (value b m))
settled b j m (Some x) None = fault_ended b j m (Some x) None
settled b j m None (Some y) = fault_ended b j m None (Some y)
settled b j m (Some x) (Some y) = fault_ended b j m (Some x) (Some y)

-- "13 Settle match." "Settle (paired)."
unfoldable pub settle : Book → ℕ → Outcome
settle b j =
    refuse_if (leb b.match_count j) 21 b
    (refuse_if (not (is_paired (match_at b j).stage)) 22 b
    (refuse_if (ltb b.day (match_at b j).due) 23 b
    (accept 0 (settled b j (match_at b j) (buyer_fault b j) (seller_fault b j)))))
