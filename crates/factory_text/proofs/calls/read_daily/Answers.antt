use Rattle.std.proofs.Common.{rules}
use Rattle.factory_text.proofs.Calling.{bad_making}
use Rattle.factory_text.proofs.calls.read_daily.Goals as goal

pub returns-in_err-numbers : goal.returns-in_err-numbers
returns-in_err-numbers c = bad_making _ _ (search rules) c.in_err-numbers.ensures.bad
