use Rattle.factory_text.proofs.Printing.{shares_line}
use Rattle.factory_text.proofs.answers.print_shares.Goals as goal

pub returns-clause-printed : goal.returns-clause-printed
returns-clause-printed c = shares_line _ c.bytes.ensures c.print_rows.ensures.printed c.byte.ensures
