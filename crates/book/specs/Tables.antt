-- The tables of a book: lookups, one field or one cell changed, one cell more, and the receipts of an owner or of a match. Assumes nothing.
use Rattle.std.specs.Prelude.{Bool, List, ℕ, ◌+◌, get_or, set}
use Rattle.book.specs.Types.{Account, Receipt, Match, Book}
use Rattle.book.specs.Counting.{tally}
use Rattle.book.specs.Rows.{blank_account, blank_receipt, blank_match, credited, debited, is_frozen_for, is_ordinary_for, is_free_of}

-- ---- lookups

abbrev pub account_at : Book → ℕ → Account
account_at b k = get_or b.accounts k blank_account

abbrev pub receipt_at : Book → ℕ → Receipt
receipt_at b i = get_or b.receipts i blank_receipt

abbrev pub match_at : Book → ℕ → Match
match_at b j = get_or b.matches j blank_match

-- ---- one field changed

abbrev pub with_accounts : Book → List Account → ℕ → Book
with_accounts b l n = record { board = b.board; tonnes = b.tonnes; rate = b.rate; heats = b.heats; price = b.price; day = b.day; «open» = b.«open»; fund = b.fund; deposited = b.deposited; accounts = l; account_count = n; receipts = b.receipts; receipt_count = b.receipt_count; matches = b.matches; match_count = b.match_count }

abbrev pub with_receipts : Book → List Receipt → ℕ → Book
with_receipts b l n = record { board = b.board; tonnes = b.tonnes; rate = b.rate; heats = b.heats; price = b.price; day = b.day; «open» = b.«open»; fund = b.fund; deposited = b.deposited; accounts = b.accounts; account_count = b.account_count; receipts = l; receipt_count = n; matches = b.matches; match_count = b.match_count }

abbrev pub with_matches : Book → List Match → ℕ → Book
with_matches b l n = record { board = b.board; tonnes = b.tonnes; rate = b.rate; heats = b.heats; price = b.price; day = b.day; «open» = b.«open»; fund = b.fund; deposited = b.deposited; accounts = b.accounts; account_count = b.account_count; receipts = b.receipts; receipt_count = b.receipt_count; matches = l; match_count = n }

abbrev pub with_fund : Book → ℕ → Book
with_fund b x = record { board = b.board; tonnes = b.tonnes; rate = b.rate; heats = b.heats; price = b.price; day = b.day; «open» = b.«open»; fund = x; deposited = b.deposited; accounts = b.accounts; account_count = b.account_count; receipts = b.receipts; receipt_count = b.receipt_count; matches = b.matches; match_count = b.match_count }

abbrev pub with_deposited : Book → ℕ → Book
with_deposited b x = record { board = b.board; tonnes = b.tonnes; rate = b.rate; heats = b.heats; price = b.price; day = b.day; «open» = b.«open»; fund = b.fund; deposited = x; accounts = b.accounts; account_count = b.account_count; receipts = b.receipts; receipt_count = b.receipt_count; matches = b.matches; match_count = b.match_count }

abbrev pub with_day : Book → ℕ → ℕ → Book
with_day b p d = record { board = b.board; tonnes = b.tonnes; rate = b.rate; heats = b.heats; price = p; day = d; «open» = b.«open»; fund = b.fund; deposited = b.deposited; accounts = b.accounts; account_count = b.account_count; receipts = b.receipts; receipt_count = b.receipt_count; matches = b.matches; match_count = b.match_count }

abbrev pub with_open : Book → Bool → Book
with_open b o = record { board = b.board; tonnes = b.tonnes; rate = b.rate; heats = b.heats; price = b.price; day = b.day; «open» = o; fund = b.fund; deposited = b.deposited; accounts = b.accounts; account_count = b.account_count; receipts = b.receipts; receipt_count = b.receipt_count; matches = b.matches; match_count = b.match_count }

-- ---- one cell changed, one cell more

abbrev pub put_account : Book → ℕ → Account → Book
put_account b k a = with_accounts b (set b.accounts k a) b.account_count

abbrev pub put_receipt : Book → ℕ → Receipt → Book
put_receipt b i r = with_receipts b (set b.receipts i r) b.receipt_count

abbrev pub put_match : Book → ℕ → Match → Book
put_match b j m = with_matches b (set b.matches j m) b.match_count

-- "Account, receipt and match numbers run from 0 in order of making."
abbrev pub add_account : Book → Account → Book
add_account b a = with_accounts b (set b.accounts b.account_count a) (b.account_count + 1)

abbrev pub add_receipt : Book → Receipt → Book
add_receipt b r = with_receipts b (set b.receipts b.receipt_count r) (b.receipt_count + 1)

abbrev pub add_match : Book → Match → Book
add_match b m = with_matches b (set b.matches b.match_count m) (b.match_count + 1)

-- account k is paid x
unfoldable pub pay : Book → ℕ → ℕ → Book
pay b k x = put_account b k (credited (account_at b k) x)

-- account k pays x
unfoldable pub charge : Book → ℕ → ℕ → Book
charge b k x = put_account b k (debited (account_at b k) x)

-- ---- counts of receipts

-- receipt i of a table is free, owner k's, and of the class meant
unfoldable pub free_at : List Receipt → Bool → ℕ → ℕ → Bool
free_at l c k i = is_free_of c k (get_or l i blank_receipt)

-- how many free receipts of the class meant owner k has
unfoldable pub free_receipts : Book → Bool → ℕ → ℕ
free_receipts b c k = tally b.receipt_count 0 (free_at b.receipts c k)

-- receipt i of a table is frozen for match j
unfoldable pub frozen_at : List Receipt → ℕ → ℕ → Bool
frozen_at l j i = is_frozen_for j (get_or l i blank_receipt).state

-- how many receipts are frozen for match j
unfoldable pub frozen_receipts : Book → ℕ → ℕ
frozen_receipts b j = tally b.receipt_count 0 (frozen_at b.receipts j)

-- receipt i of a table is frozen for match j and ordinary
unfoldable pub ordinary_at : List Receipt → ℕ → ℕ → Bool
ordinary_at l j i = is_ordinary_for j (get_or l i blank_receipt)

-- how many ordinary receipts are frozen for match j
unfoldable pub ordinary_receipts : Book → ℕ → ℕ
ordinary_receipts b j = tally b.receipt_count 0 (ordinary_at b.receipts j)
