-- The opening of a book, and call 11, Day. Assumes nothing.
use Rattle.std.specs.Prelude.{Bool, true, false, List, ℕ, ◌+◌, ltb, leb, eqb, replicate, Result, Ok, Err}
use Rattle.heats.specs.Numerators.{heat_table}
use Rattle.book.specs.Types.{Refusal, Book, Outcome}
use Rattle.book.specs.Codes.{refusal_number}
use Rattle.book.specs.Rows.{blank_account, blank_receipt, blank_match}
use Rattle.book.specs.Tables.{with_day}
use Rattle.book.specs.Answers.{refuse, refuse_if, accept}

-- "A fresh book": "Day is 0, market open, fund 0, deposits accepted 0, all else empty."
abbrev pub fresh : List ℕ → Bool → ℕ → ℕ → ℕ → Book
fresh heats board t r p = record { board = board; tonnes = t; rate = r; heats = heats; price = p; day = 0; «open» = true; fund = 0; deposited = 0; accounts = replicate 32 blank_account; account_count = 0; receipts = replicate 256 blank_receipt; receipt_count = 0; matches = replicate 256 blank_match; match_count = 0 }

-- "a refused opening makes no book; where code must hand a value back beside it, that is the book of `0 0 1 0 1`"
abbrev pub no_book : Book
no_book = fresh heat_table false 1 0 1

-- the outcome that the result of an opening is
abbrev pub opened : Result Book Refusal → Outcome
opened (Ok b) = accept 0 b
opened (Err e) = refuse (refusal_number e) no_book

-- with a heat table: "Each book keeps the table it was opened with, Job 9's if none was loaded."
-- "kind (0 receipts, 1 board), T tonnes per unit 1..20,000, default rate R 0..100 percent, price 1..1,000,000 fen/t"
unfoldable pub opening : List ℕ → ℕ → ℕ → ℕ → ℕ → Outcome
opening heats kind t r p =
    refuse_if (ltb 1 kind) 1 no_book
    (refuse_if (ltb t 1) 1 no_book
    (refuse_if (ltb 20_000 t) 1 no_book
    (refuse_if (ltb 100 r) 1 no_book
    (refuse_if (ltb p 1) 1 no_book
    (refuse_if (ltb 1_000_000 p) 1 no_book
    (accept 0 (fresh heats (eqb kind 1) t r p)))))))

-- "11 Day price: day + 1; carries the new day."
unfoldable pub next_day : Book → ℕ → Outcome
next_day b p =
    refuse_if (ltb p 1) 1 b
    (refuse_if (ltb 1_000_000 p) 1 b
    (refuse_if (leb 1_000 b.day) 2 b
    (accept (b.day + 1) (with_day b p (b.day + 1)))))
