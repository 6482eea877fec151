use Rattle.text.proofs.Printing.{prints_then, closed_line}
use Rattle.text.proofs.print.Printer.closed.Goals as goal

pub returns-clause-printed : goal.returns-clause-printed
returns-clause-printed c =
    let rest = prints_then c.next_small-3.ensures.printed c.byte.ensures in
    rw closed_line (prints_then c.bytes.ensures (prints_then c.next_small.ensures.printed (prints_then c.next_small-2.ensures.printed rest)))
