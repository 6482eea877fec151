-- A vessel's amount is small; and where it is not refused, its due weight, and those before it, are within D, which is small. Assumes nothing.
use Rattle.std.specs.Prelude.{◌≡◌, false, ℕ, ◌+◌, ◌≤◌}
use Rattle.std.proofs.Common.{arith}
use Rattle.coal.specs.declared.Weighed.{Weighed}
use Rattle.coal.specs.Coal.{coal_weight, amount}
use Rattle.coal.specs.Ranges.{most_due, most_price, most_amount}
use Rattle.coal.proofs.laws.Bounds.{amount_most, weighed}
use Rattle.book.specs.declared.tables.Book.{Book}
use Rattle.book.specs.Settlement.{bad_due}
use Rattle.book.proofs.laws.Answered.{may_load}
use Rattle.book.proofs.laws.Bounds.{weight_due_most}
use Rattle.payments.specs.declared.valued.ValuedMatch.{ValuedMatch}
use Rattle.payments.specs.Money.{Due}

pub small : (p d w m : ℕ) (r : Weighed) → p ≤ most_price → r ≡ coal_weight d w m → d ≤ most_due → amount p r.settled ≤ most_amount
small p d w m r h e k = amount_most p r.settled h (weighed d w m r e k)

pub within : (b : Book) (m : ValuedMatch) (d : ℕ) → Due b m → bad_due b m.row d ≡ false → m.row.loaded + d ≤ most_due
within b m d r e = omega (arith, (may_load b m.row d e).within, weight_due_most b m.row r.units_few r.tonnes_few)
