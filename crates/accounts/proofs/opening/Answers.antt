use Rattle.reached.specs.Needs.{begun}
use Rattle.std.proofs.Common.{rules}
use Rattle.book.specs.Opening.{opening}
use Rattle.accounts.proofs.opening.Goals as goal

pub invariant_of-result : goal.invariant_of-result
unfolding opening
invariant_of-result c = let terms = c.args.terms.now in begun c.args.heats.now c.lend.ensures.table terms.kind terms.tonnes terms.rate terms.price (search rules)
