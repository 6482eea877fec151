-- A book after pairings has what the code of Close asks of a book, and no fewer matches. Assumes nothing.
use Rattle.std.specs.Prelude.{◌≡◌, Bool, List, [], ◌∷◌, ℕ, ◌≤◌}
use Rattle.std.proofs.Common.{◌∙◌, arith}
use Rattle.book.specs.declared.tables.Pair.{Pair}
use Rattle.book.specs.declared.tables.Book.{Book}
use Rattle.book.specs.Pairing.{freeze, pair}
use Rattle.book.specs.Closing.{pair_all}
use Rattle.book.specs.Lists.{Reached}
use Rattle.reached.specs.Needs.{calls}
use Rattle.book.proofs.laws.Counting.{by_pick}
use Rattle.closing.specs.Asked.{Ready}

pub ready : (b : Book) → Reached b → Ready b
ready b r = search calls

-- what a book e that comes after b by pairings has of it
pub record Follows (b e : Book) : Type 0 where
  pub ready : Ready b → Ready e
  pub accounts : e.account_count ≡ b.account_count
  pub more : b.match_count ≤ e.match_count

pub stays : (b : Book) → Follows b b
stays b = omega arith

pub then : {b e d : Book} → Follows b e → Follows e d → Follows b d
then f g = record { ready = λ r. g.ready (f.ready r); accounts = g.accounts ∙ f.accounts; more = omega (arith, f.more, g.more) }

module _ (b : Book) (c : Bool) (days buyer seller u : ℕ) where
  pub pair_follows : Follows b (pair b c days buyer seller u)
  unfolding pair freeze
  pair_follows = by_pick (Follows b) b.board (λ q. omega arith) (λ q. omega arith)

pub all_follow : (c : Bool) (ps : List Pair) (b : Book) → Follows b (pair_all c ps b)
unfolding pair_all
all_follow c [] b = stays b
all_follow c (p ∷ ps) b = then (pair_follows b c 1 p.buyer p.seller p.units) (all_follow c ps (pair b c 1 p.buyer p.seller p.units))
