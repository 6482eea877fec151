use Rattle.std.proofs.Common.{rules}
use Rattle.reader.proofs.Calling.{bad_line}
use Rattle.reader.proofs.lines.read_line.Goals as goal

pub returns-in_err-numbers : goal.returns-in_err-numbers
returns-in_err-numbers c = bad_line _ _ (search rules) c.in_err-numbers.ensures.bad
