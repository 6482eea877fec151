use Rattle.std.proofs.Common.{arith}
use Rattle.payments.proofs.Money.{room_sound}
use Rattle.reached.specs.Needs.{calls, kept}
use Rattle.book.specs.declared.calls.Call.{Call}
use Rattle.book.specs.Calls.{step}
use Rattle.book.specs.Settlement.{invoice}
use Rattle.settlement.proofs.invoice.Goals as goal

pub pay-requires-clause-room : goal.pay-requires-clause-room
pay-requires-clause-room c = room_sound _ c.month.invariant 1 (omega arith)

pub invariant_of-month : goal.invariant_of-month
unfolding step invoice
invariant_of-month c = kept 0 (Call.Invoice c.args.number) c.month.invariant (search calls)
