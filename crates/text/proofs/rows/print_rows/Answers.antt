use Rattle.std.proofs.Common.{refl, arith}
use Rattle.std.proofs.Math.Nat.{mul-add}
use Rattle.std.proofs.lemmas.List.{get_or_read_under}
use Rattle.text.specs.Ledger.{each}
use Rattle.text.proofs.Printing.{prints_none, rows_more}
use Rattle.text.proofs.rows.print_rows.Goals as goal

pub loop-i-init : goal.loop-i-init
unfolding each
loop-i-init g c = record { few = omega arith; printed = prints_none _ }

pub print-requires-clause-fits : goal.print-requires-clause-fits
print-requires-clause-fits g c =
    let e = get_or_read_under _ _ _ _ g.T.Row.blank c.index-rows-i.is c.loop-i-test.true refl in
    rw e (c.requires.fits c.loop-i.i c.loop-i-test.true)

pub loop-i-preserved : goal.loop-i-preserved
loop-i-preserved g c =
    let e = get_or_read_under _ _ _ _ g.T.Row.blank c.index-rows-i.is c.loop-i-test.true refl in
    record { few = omega (arith, mul-add g.T.Row.most c.loop-i.i 1); printed = rows_more _ _ c.loop-i.invariant.printed (rw e at c.print.ensures.printed) }
