use Rattle.std.proofs.Common.{rules}
use Rattle.reader.proofs.Calling.{bad_opening}
use Rattle.reader.proofs.lines.read_opening.Goals as goal

pub returns-in_err-numbers : goal.returns-in_err-numbers
returns-in_err-numbers c = bad_opening _ _ (search rules) c.in_err-numbers.ensures.bad
