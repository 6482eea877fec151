-- With `prints_then` in `using` the search stops at its limits.
use Rattle.std.proofs.Common.{◌≡◌, rules}
use Rattle.text.proofs.Printing.{prints_then}
use Rattle.text.proofs.Signs.{kept}
use Rattle.text.proofs.ledger.AccountRowLedgerForm.print.Goals as goal

pub returns-clause-printed : goal.returns-clause-printed
returns-clause-printed c =
    let z : kept c.args.self.now.cash ≡ c.args.self.now.cash = search rules in
    rw (← c.side_number.ensures) (prints_then c.number.ensures.printed (prints_then c.byte.ensures (prints_then (rw z at c.signed.ensures.printed) c.rest.ensures.printed)))
