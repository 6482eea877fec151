-- Calls 1 to 4: Join, Deposit, Withdraw, Trade. Assumes nothing.
use Rattle.std.specs.Prelude.{Bool, not, ℕ, ◌+◌, ltb, leb, eqb, pos, None}
use Rattle.std.specs.Int.Signed.{lt_z}
use Rattle.book.specs.Types.{Side, Account, Book, Outcome}
use Rattle.book.specs.Rows.{no_lots, units_on, needs_fifth, is_long, is_short}
use Rattle.book.specs.Tables.{account_at, put_account, add_account, with_deposited, pay, charge}
use Rattle.book.specs.Answers.{refuse_if, accept}

-- "It joins with cash 0, side none, .. and both missing", and with no lot.
abbrev pub joined_account : Bool → Bool → Account
joined_account overseas fit = record { cash = pos 0; units = 0; lots = no_lots; heat = None; offer = None; side = Side.Flat; overseas = overseas; fit = fit }

-- "residence (0 domestic, 1 overseas), fitness (0 unfit, 1 fit)"
abbrev pub new_account : ℕ → ℕ → Account
new_account residence fitness = joined_account (eqb residence 1) (eqb fitness 1)

-- "1 Join residence, fitness; carries the account number."
unfoldable pub join : Book → ℕ → ℕ → Outcome
join b residence fitness =
    refuse_if (leb 32 b.account_count) 3 b
    (refuse_if (ltb 1 residence) 8 b
    (refuse_if (ltb 1 fitness) 8 b
    (accept b.account_count (add_account b (new_account residence fitness)))))

-- "2 Deposit account, amount: cash up by it."
unfoldable pub deposit : Book → ℕ → ℕ → Outcome
deposit b k x =
    refuse_if (leb b.account_count k) 6 b
    (refuse_if (ltb x 1) 8 b
    (refuse_if (ltb 1_000_000_000_000_000 x) 8 b
    (refuse_if (ltb 100_000_000_000_000_000 (b.deposited + x)) 25 b
    (accept 0 (pay (with_deposited b (b.deposited + x)) k x)))))

-- "3 Withdraw account, amount: cash down by it."
unfoldable pub withdraw : Book → ℕ → ℕ → Outcome
withdraw b k x =
    refuse_if (leb b.account_count k) 6 b
    (refuse_if (ltb x 1) 8 b
    (refuse_if (ltb 1_000_000_000_000_000 x) 8 b
    (refuse_if (lt_z (account_at b k).cash (pos x)) 11 b
    (accept 0 (charge b k x)))))

-- account k has u units more on a side
abbrev pub add_units : Book → ℕ → Side → ℕ → Book
add_units b k s u = put_account b k (units_on (account_at b k) s u b.day)

-- "adds units long to one and short to the other"
abbrev pub traded : Book → ℕ → ℕ → ℕ → Book
traded b buyer seller u = add_units (add_units b buyer Side.Long u) seller Side.Short u

-- "4 Trade buyer, seller, units: adds units long to one and short to the other."
unfoldable pub trade : Book → ℕ → ℕ → ℕ → Outcome
trade b buyer seller u =
    refuse_if (not b.«open») 5 b
    (refuse_if (leb b.account_count buyer) 6 b
    (refuse_if (leb b.account_count seller) 6 b
    (refuse_if (eqb buyer seller) 7 b
    (refuse_if (ltb u 1) 8 b
    (refuse_if (ltb 1_000 u) 8 b
    (refuse_if (is_short (account_at b buyer).side) 9 b
    (refuse_if (is_long (account_at b seller).side) 9 b
    (refuse_if (ltb 1_000 ((account_at b buyer).units + u)) 10 b
    (refuse_if (ltb 1_000 ((account_at b seller).units + u)) 10 b
    (refuse_if (needs_fifth (account_at b buyer).lots b.day) 28 b
    (refuse_if (needs_fifth (account_at b seller).lots b.day) 28 b
    (accept 0 (traded b buyer seller u)))))))))))))
