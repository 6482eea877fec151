use Rattle.std.proofs.Common.{◌∙◌, arith}
use Rattle.settlement.proofs.Receipts.{frozen_rows}
use Rattle.settlement.proofs.seller_lacks.Goals as goal

pub returns-else-book : goal.returns-else-book
returns-else-book c = grind (arith, c.count_frozen.ensures ∙ frozen_rows c.args.book.now c.args.m.now.number _ c.in_use-lodged.ensures.rows c.in_use-lodged.ensures.many)
