-- Every reached book is sound: its tables by the calls, its cash and its fund by the bound on what calls move. Assumes nothing.
use Rattle.std.proofs.Common.{arith}
use Rattle.book.specs.Types.{Book}
use Rattle.book.specs.Lists.{Reached}
use Rattle.book.proofs.laws.Sound.{Sound}
use Rattle.book.proofs.laws.Steps.{reached_tables}
use Rattle.book.proofs.laws.Bound.{bounded, stages_few}

pub sound : {b : Book} → Reached b → Sound b
sound {b} h =
    let r = reached_tables h in
    let z = bounded h in
    let s = stages_few b r in
    record { tables = r; cash_few = λ k. omega (arith, z.cash k, r.core.terms.deposits_few); fund_few = omega (arith, z.fund) }
