-- After the first penalty there is room for the second; not in `using`, where the record `Room` is taken apart. Assumes nothing.
use Rattle.std.proofs.Common.{rules}
use Rattle.payments.proofs.Money.{money}
use Rattle.payments.proofs.punish.Goals as goal

pub fined-requires-in-Some-Some-2-clause-room : goal.fined-requires-in-Some-Some-2-clause-room
fined-requires-in-Some-Some-2-clause-room c = search (rules, money)
