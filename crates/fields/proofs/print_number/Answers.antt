use Rattle.fields.proofs.print_number.Goals as goal

pub returns-clause-printed : goal.returns-clause-printed
returns-clause-printed c = rw c.decimal.ensures.text at c.print_word.ensures.printed
