-- Lists of calls. "Each call gets the book that the one before it left" Assumes nothing.
use Rattle.std.specs.Prelude.{◌≡◌, Bool, true, List, [], ◌∷◌, ℕ, ◌+◌, eqb, ℤ, pos, ◌+ℤ◌}
use Rattle.heats.specs.HeatTables.{IsHeatTable}
use Rattle.coal.specs.Choice.{pick}
use Rattle.book.specs.Types.{Book, Call}
use Rattle.book.specs.Answers.{is_accepted}
use Rattle.book.specs.Opening.{opening}
use Rattle.book.specs.Calls.{step}
use Rattle.book.specs.Entries.{Entry, entries}

-- the book after a list of calls
unfoldable pub after : Book → List Call → Book
after b [] = b
after b (c ∷ cs) = after (step b c).book cs

-- call c is accepted in book b
abbrev pub accepts : Book → Call → Bool
accepts b c = is_accepted (step b c).answer

-- a book "reached from an accepted opening by calls"
pub data Reached : Book → Type 0 where
  opened : (heats : List ℕ) → IsHeatTable heats → (kind t r p : ℕ) → is_accepted (opening heats kind t r p).answer ≡ true → Reached (opening heats kind t r p).book
  called : {b : Book} (c : Call) → Reached b → Reached (step b c).book

-- ---- sums over the accepted calls of a list

-- f of each accepted call, "added up from the calls and not read from the book"
unfoldable pub sum_accepted : (Call → ℕ) → Book → List Call → ℕ
sum_accepted f b [] = 0
sum_accepted f b (c ∷ cs) = pick (accepts b c) (f c) 0 + sum_accepted f (step b c).book cs

-- what a call deposits, withdraws and trades
pub record Amounts : Type 0 where
  pub deposited : ℕ
  pub withdrawn : ℕ
  pub traded : ℕ

abbrev pub no_amounts : Amounts
no_amounts = record { deposited = 0; withdrawn = 0; traded = 0 }

unfoldable pub amounts : Call → Amounts
amounts (Call.Join residence fitness) = no_amounts
amounts (Call.Deposit k x) = record { deposited = x; withdrawn = 0; traded = 0 }
amounts (Call.Withdraw k x) = record { deposited = 0; withdrawn = x; traded = 0 }
amounts (Call.Trade buyer seller u) = record { deposited = 0; withdrawn = 0; traded = u }
amounts (Call.Lodge owner class) = no_amounts
amounts (Call.Strike owner i) = no_amounts
amounts (Call.Declare k h) = no_amounts
amounts (Call.Offer seller u) = no_amounts
amounts (Call.Retract seller) = no_amounts
amounts (Call.Take buyer seller) = no_amounts
amounts (Call.Day p) = no_amounts
amounts (Call.Close budget) = no_amounts
amounts (Call.Pay j) = no_amounts
amounts (Call.Measure j x d) = no_amounts
amounts (Call.Invoice j) = no_amounts
amounts (Call.Terminate j party) = no_amounts
amounts (Call.HandOver j) = no_amounts
amounts (Call.Auction j winner x) = no_amounts

-- "the amounts of the list's accepted calls 2, of its accepted calls 3 and the units of its accepted calls 4"
abbrev pub deposits_accepted : Book → List Call → ℕ
deposits_accepted b cs = sum_accepted (λ c. (amounts c).deposited) b cs

abbrev pub withdrawals_accepted : Book → List Call → ℕ
withdrawals_accepted b cs = sum_accepted (λ c. (amounts c).withdrawn) b cs

abbrev pub units_traded : Book → List Call → ℕ
units_traded b cs = sum_accepted (λ c. (amounts c).traded) b cs

-- ---- the entries of an account

-- the entries of account k in a list of entries, added up
unfoldable pub entry_sum : ℕ → List Entry → ℤ
entry_sum k [] = pos 0
entry_sum k (e ∷ es) = pick (eqb e.account k) e.amount (pos 0) +ℤ entry_sum k es

-- "the sum of its entries in the list's accepted calls"
unfoldable pub account_entries : ℕ → Book → List Call → ℤ
account_entries k b [] = pos 0
account_entries k b (c ∷ cs) = pick (accepts b c) (entry_sum k (entries b c)) (pos 0) +ℤ account_entries k (step b c).book cs
