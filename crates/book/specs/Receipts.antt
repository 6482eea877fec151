-- Calls 5 and 6: Lodge, Strike. Assumes nothing.
use Rattle.std.specs.Prelude.{Bool, not, ℕ, ltb, leb, eqb}
use Rattle.book.specs.Types.{ReceiptState, Receipt, Book, Outcome}
use Rattle.book.specs.Rows.{with_state, is_struck, is_frozen}
use Rattle.book.specs.Tables.{receipt_at, add_receipt, put_receipt}
use Rattle.book.specs.Answers.{refuse_if, accept}

-- "owner, class .., state (0 free, ..)"
abbrev pub lodged_receipt : ℕ → Bool → Receipt
lodged_receipt owner bonded = record { owner = owner; bonded = bonded; state = ReceiptState.Free }

-- "class (0 ordinary, 1 bonded)"
abbrev pub new_receipt : ℕ → ℕ → Receipt
new_receipt owner class = lodged_receipt owner (eqb class 1)

-- "5 Lodge owner, class; carries the receipt number."
unfoldable pub lodge : Book → ℕ → ℕ → Outcome
lodge b owner class =
    refuse_if b.board 4 b
    (refuse_if (leb b.account_count owner) 6 b
    (refuse_if (ltb 1 class) 8 b
    (refuse_if (leb 256 b.receipt_count) 16 b
    (accept b.receipt_count (add_receipt b (new_receipt owner class))))))

-- "6 Strike owner, receipt." "2 struck, keeping its last owner"
unfoldable pub strike : Book → ℕ → ℕ → Outcome
strike b owner i =
    refuse_if b.board 4 b
    (refuse_if (leb b.account_count owner) 6 b
    (refuse_if (leb b.receipt_count i) 17 b
    (refuse_if (not (eqb (receipt_at b i).owner owner)) 17 b
    (refuse_if (is_struck (receipt_at b i).state) 17 b
    (refuse_if (is_frozen (receipt_at b i).state) 18 b
    (accept 0 (put_receipt b i (with_state (receipt_at b i) ReceiptState.Struck))))))))
