use Rattle.std.proofs.Common.{refl}
use Rattle.closing.proofs.Listing.{on_long, on_short}
use Rattle.closing.proofs.fewest.larger_side.Goals as goal

pub returns : goal.returns
returns c =
    let b = c.args.book.now in
    let e = c.in_use-accounts.ensures in
    let l = on_long b b.account_count _ refl e.rows e.many in
    let s = on_short b b.account_count _ refl e.rows e.many in
    rw (c.max.ensures, c.len-buyers.ensures.value, c.len-sellers.ensures.value, c.on_side.ensures, c.on_side-2.ensures, l, s) refl
