use Rattle.std.proofs.Common.{rules}
use Rattle.closing.proofs.Planning.{none_tested, many_stand, plan_stands, old_stands, plan_ends}
use Rattle.closing.proofs.fewest.standing.Goals as goal

pub returns-then-accounts-gt10-clause-pairs : goal.returns-then-accounts-gt10-clause-pairs
returns-then-accounts-gt10-clause-pairs c = many_stand _ c.requires.accounts _ c.old_pairs-pairs.ensures.pairs c.args.budget c.if-accounts-gt10.true

pub returns-then-accounts-gt10-clause-tests : goal.returns-then-accounts-gt10-clause-tests
returns-then-accounts-gt10-clause-tests c = none_tested _ c.requires.accounts c.args.budget c.if-accounts-gt10.true

pub returns-then-len-clause-pairs : goal.returns-then-len-clause-pairs
returns-then-len-clause-pairs c = plan_stands _ c.requires.accounts _ c.old_pairs-pairs.ensures.pairs c.args.budget c.if-accounts-gt10.false c.plan-plan.ensures.pairs (search rules)

pub returns-then-len-clause-there : goal.returns-then-len-clause-there
returns-then-len-clause-there c = plan_ends c.requires.core c.args.budget c.plan-plan.ensures.pairs

pub returns-clause-pairs : goal.returns-clause-pairs
returns-clause-pairs c = old_stands _ c.requires.accounts _ c.old_pairs-pairs.ensures.pairs c.args.budget c.if-accounts-gt10.false c.plan-plan.ensures.pairs (search rules)
