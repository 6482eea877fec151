use Rattle.std.specs.Prelude.{ltb}
use Rattle.book.specs.Tables.{account_at}
use Rattle.closing.proofs.Listing.{ListedTo}
use Rattle.closing.proofs.fewest.remaining.Given as goal

abbrev pub invariant-loop-k : goal.invariant-loop-k
invariant-loop-k l = ListedTo (λ j. j) (λ j. ltb 0 (account_at l.book j).units) l.book.account_count l.k l.list.items
