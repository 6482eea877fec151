-- Neighbouring lots of one account as one: what the walk of Close's first pass goes over in code. Assumes nothing.
use Rattle.std.specs.Prelude.{List, [], ◌∷◌, ◌+◌, eqb}
use Rattle.coal.specs.Choice.{pick}
use Rattle.book.specs.Types.{Listed}

-- a lot before a list of lots
unfoldable pub join_lot : Listed → List Listed → List Listed
join_lot x [] = x ∷ []
join_lot x (y ∷ ys) = pick (eqb x.account y.account) (record { account = x.account; left = x.left + y.left; day = y.day } ∷ ys) (x ∷ y ∷ ys)

unfoldable pub join_lots : List Listed → List Listed
join_lots [] = []
join_lots (x ∷ xs) = join_lot x (join_lots xs)
