-- What the page has room for. Assumes nothing.
use Prim.Native.Nat.{ℕ, ◌<◌}
use native.Mathlib.Omega.{arith}
use mathlib.Core.Path.{◌≡◌}
use mathlib.Core.List.{List}
use lib.ListN.{length, take, get_or}
use Rattle.std.proofs.lemmas.List.{get_or-take}
use Rattle.book.specs.declared.matches.Match.{Match}
use Rattle.book.specs.declared.tables.Book.{Book}
use Rattle.book.specs.Lists.{Reached}
use Rattle.book.specs.Rows.{blank_match}
use Rattle.text.proofs.Columns.{few, fit}

-- every match of a reached book
pub fitting : {b : Book} (rows : List Match) → Reached b → rows ≡ take b.match_count b.matches → length rows ≡ b.match_count →
    (k : ℕ) → k < length rows → (k < 1_000) × ((get_or rows k blank_match).price < 100_000_000) × ((get_or rows k blank_match).held < 10_000_000_000_000_000)
fitting {b} rows r e h k l =
    let f = fit r k (omega arith) in
    let g = get_or-take b.match_count b.matches k blank_match (omega arith) in
    (omega (arith, (few r).2), rw (e, g) f.0, rw (e, g) f.1)
