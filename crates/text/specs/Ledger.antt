-- The ledger: "sections in a fixed order, each after its count". Assumes nothing.
use Rattle.std.specs.Prelude.{List, [], ◌∷◌, ◌++◌, ℕ, zero, suc, ◌+◌, get_or}
use Rattle.book.specs.declared.accounts.Account.{Account}
use Rattle.book.specs.declared.receipts.Receipt.{Receipt}
use Rattle.book.specs.declared.matches.Match.{Match}
use Rattle.book.specs.declared.tables.Book.{Book}
use Rattle.book.specs.Codes.{side_number, class_number, state_number, stage_number}
use Rattle.book.specs.Rows.{blank_account, blank_receipt, blank_match}
use Rattle.text.specs.Text.{bytes}
use Rattle.text.specs.Print.{digits, signed, rest_of_line}

-- a word and a number on a line
abbrev pub heading : List ℕ → ℕ → List ℕ
heading word n = word ++ rest_of_line (n ∷ [])

-- the texts of the n numbers from i on, one after the other
unfoldable pub each : ℕ → ℕ → (ℕ → List ℕ) → List ℕ
each zero i f = []
each (suc n) i f = f i ++ each n (i + 1) f

-- "accounts (number, cash, side, units)"
abbrev pub account_line : ℕ → Account → List ℕ
account_line k a = digits k ++ ((32 ∷ []) ++ (signed a.cash ++ rest_of_line (side_number a.side ∷ a.units ∷ [])))

-- "receipts (number, owner, class, state)"
abbrev pub receipt_line : ℕ → Receipt → List ℕ
receipt_line i r = digits i ++ rest_of_line (r.owner ∷ class_number r.bonded ∷ state_number r.state ∷ [])

-- "matches (number, buyer, seller, units, price, stage, held)"
abbrev pub match_line : ℕ → Match → List ℕ
match_line j m = digits j ++ rest_of_line (m.buyer ∷ m.seller ∷ m.units ∷ m.price ∷ stage_number m.stage ∷ m.held ∷ [])

-- the line of row k of a table
unfoldable pub account_row : List Account → ℕ → List ℕ
account_row l k = account_line k (get_or l k blank_account)

unfoldable pub receipt_row : List Receipt → ℕ → List ℕ
receipt_row l i = receipt_line i (get_or l i blank_receipt)

unfoldable pub match_row : List Match → ℕ → List ℕ
match_row l j = match_line j (get_or l j blank_match)

-- a section: its count, then its n rows
abbrev pub section : List ℕ → ℕ → (ℕ → List ℕ) → List ℕ
section word n row = heading word n ++ each n 0 row

-- accounts, receipts, matches, "then the fund"
unfoldable pub ledger : Book → List ℕ
ledger b =
    section (bytes "accounts") b.account_count (account_row b.accounts)
    ++ (section (bytes "receipts") b.receipt_count (receipt_row b.receipts)
    ++ (section (bytes "matches") b.match_count (match_row b.matches)
    ++ heading (bytes "fund") b.fund))
