-- With `prints_then` in `using` the search stops at its limits.
use Rattle.std.proofs.Common.{◌≡◌, rules}
use Rattle.text.proofs.Signs.{kept}
use Rattle.text.proofs.Printing.{prints_then}
use Rattle.columns.proofs.AccountRowPageForm.print.Goals as goal

pub returns-clause-printed : goal.returns-clause-printed
returns-clause-printed c = let z : kept c.args.self.now.cash ≡ c.args.self.now.cash = search rules in
    rw (← c.side_word.ensures.word) (prints_then (prints_then c.print_number.ensures.printed (prints_then (rw z at c.print_cash.ensures.printed) (prints_then c.print_word.ensures.printed c.print_number-2.ensures.printed))) c.byte.ensures)
