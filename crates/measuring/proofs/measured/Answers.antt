-- After both payments there is room for the third; not in `using`, where the record `Room` is taken apart. Assumes nothing.
use Rattle.std.proofs.Common.{rules}
use Rattle.payments.proofs.Money.{money}
use Rattle.measuring.proofs.measured.Goals as goal

pub pay-requires-2-clause-room : goal.pay-requires-2-clause-room
pay-requires-2-clause-room c = search (rules, money)
