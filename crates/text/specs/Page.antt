-- The ledger page of document 02's Job 1: "lines of 40 characters and a newline". Assumes nothing.
use Rattle.std.specs.Prelude.{◌≡◌, Bool, true, false, List, [], ◌∷◌, ◌++◌, ℕ, suc, ◌-◌, ◌+◌, ◌/◌, ◌%◌, ltb, leb, length, drop, get_or, replicate}
use Rattle.coal.specs.Choice.{pick}
use Rattle.book.specs.declared.accounts.Side.{Side}
use Rattle.book.specs.declared.receipts.ReceiptState.{ReceiptState}
use Rattle.book.specs.declared.accounts.Account.{Account}
use Rattle.book.specs.declared.receipts.Receipt.{Receipt}
use Rattle.book.specs.declared.matches.Match.{Match}
use Rattle.book.specs.declared.tables.Book.{Book}
use Rattle.book.specs.Outcomes.{Answer}
use Rattle.book.specs.Codes.{stage_number}
use Rattle.book.specs.Rows.{blank_account, blank_receipt, blank_match}
use Rattle.text.specs.Text.{bytes}
use Rattle.text.specs.Print.{digits, with_sign}
use Rattle.text.specs.Ledger.{each}

-- ---- fields

abbrev pub spaces : ℕ → List ℕ
spaces n = replicate n 32

-- "every field of the page is right-aligned": a text at the right end of n characters
unfoldable pub right : ℕ → List ℕ → List ℕ
right n t = spaces (n - length t) ++ t

-- "padded to 40 with spaces on the right"
unfoldable pub padded : ℕ → List ℕ → List ℕ
padded n t = t ++ spaces (n - length t)

-- fen "in yuan with two decimals"
unfoldable pub yuan : ℕ → List ℕ
yuan x = digits (x / 100) ++ (46 ∷ (48 + x / 10 % 10) ∷ (48 + x % 10) ∷ [])

-- "side as none, long or short"
abbrev pub side_word : Side → List ℕ
side_word Side.Flat = bytes "none"
side_word Side.Long = bytes "long"
side_word Side.Short = bytes "short"

-- "class as ordinary or bonded"
abbrev pub class_word : Bool → List ℕ
class_word false = bytes "ordinary"
class_word true = bytes "bonded"

-- "state as free, frozen or struck"
abbrev pub state_word : ReceiptState → List ℕ
state_word ReceiptState.Free = bytes "free"
state_word (ReceiptState.Frozen j) = bytes "frozen"
state_word ReceiptState.Struck = bytes "struck"

-- ---- lines

-- the characters of a line "and a newline"
abbrev pub line : List ℕ → List ℕ
line t = t ++ (10 ∷ [])

-- "for an account, number in 3, cash in yuan with two decimals and a minus sign where due in 22, side .. in 7, units in 8"
abbrev pub account_columns : ℕ → Account → List ℕ
account_columns k a = right 3 (digits k) ++ (right 22 (with_sign yuan a.cash) ++ (right 7 (side_word a.side) ++ right 8 (digits a.units)))

-- "For a receipt, number in 4, owner in 4, class .. in 12, state .. in 20."
abbrev pub receipt_columns : ℕ → Receipt → List ℕ
receipt_columns i r = right 4 (digits i) ++ (right 4 (digits r.owner) ++ (right 12 (class_word r.bonded) ++ right 20 (state_word r.state)))

-- "For a match, number, buyer and seller in 3 each, units in 5, price in fen in 8, stage in 2, money held in fen in 16."
abbrev pub match_columns : ℕ → Match → List ℕ
match_columns j m =
    (right 3 (digits j) ++ (right 3 (digits m.buyer) ++ right 3 (digits m.seller)))
    ++ (right 5 (digits m.units) ++ (right 8 (digits m.price) ++ (right 2 (digits (stage_number m.stage)) ++ right 16 (digits m.held))))

-- a count, or the fund: "these as in the ledger, the fund in fen, padded to 40 with spaces on the right"
abbrev pub count_columns : List ℕ → ℕ → List ℕ
count_columns word n = padded 40 (word ++ ((32 ∷ []) ++ digits n))

-- ---- the page

-- the line of row k of a table
unfoldable pub account_entry : List Account → ℕ → List ℕ
account_entry l k = line (account_columns k (get_or l k blank_account))

unfoldable pub receipt_entry : List Receipt → ℕ → List ℕ
receipt_entry l i = line (receipt_columns i (get_or l i blank_receipt))

unfoldable pub match_entry : List Match → ℕ → List ℕ
match_entry l j = line (match_columns j (get_or l j blank_match))

-- "Each section follows its count line"
abbrev pub page_section : List ℕ → ℕ → (ℕ → List ℕ) → List ℕ
page_section word n entry = line (count_columns word n) ++ each n 0 entry

-- the sections in the ledger's order, "and the fund line comes last"
unfoldable pub page : Book → List ℕ
page b =
    page_section (bytes "accounts") b.account_count (account_entry b.accounts)
    ++ (page_section (bytes "receipts") b.receipt_count (receipt_entry b.receipts)
    ++ (page_section (bytes "matches") b.match_count (match_entry b.matches)
    ++ line (count_columns (bytes "fund") b.fund)))

-- ---- what holds of the page of every reached book: proofs/Columns

-- characters, and no newline among them
unfoldable pub printable : List ℕ → Bool
printable [] = true
printable (x ∷ t) = pick (leb 32 x) (pick (leb x 126) (printable t) false) false

-- n characters
pub record Characters (n : ℕ) (t : List ℕ) : Type 0 where
  pub count : length t ≡ n
  pub clean : printable t ≡ true

-- "lines of 40 characters and a newline": n of them
pub data Lined : ℕ → List ℕ → Type 0 where
  none : Lined 0 []
  more : {n : ℕ} {t rest : List ℕ} → Characters 40 t → Lined n rest → Lined (suc n) (line t ++ rest)

-- how many lines the page has
abbrev pub line_count : Book → ℕ
line_count b = 4 + b.account_count + b.receipt_count + b.match_count

-- ---- the page in a lent buffer

-- the buffer after a text is written at its front: "untouched" where it is too short, and bytes past the text "stay"
unfoldable pub lent : List ℕ → List ℕ → List ℕ
lent t before = pick (ltb (length before) (length t)) before (t ++ drop (length t) before)

-- "27 when the buffer is too short for the page"; "the accepted answer carries the page's length in bytes"
unfoldable pub page_answer : Book → List ℕ → Answer
page_answer b before = pick (ltb (length before) (length (page b))) (Answer.Refused 27) (Answer.Accepted (length (page b)))
