-- A penalty leaves the receipts as they are. Assumes nothing.
use Rattle.std.specs.Prelude.{◌≡◌, refl, Option, Some, None, ℕ}
use Rattle.book.specs.declared.matches.Match.{Match}
use Rattle.book.specs.declared.tables.Book.{Book}
use Rattle.book.specs.Tables.{pay, charge}
use Rattle.book.specs.Settlement.{punish}

pub punished_count : (b : Book) (m : Match) (x y : Option ℕ) → (punish b m x y).receipt_count ≡ b.receipt_count
unfolding punish pay charge
punished_count b m None None = refl
punished_count b m (Some p) None = refl
punished_count b m None (Some q) = refl
punished_count b m (Some p) (Some q) = refl
