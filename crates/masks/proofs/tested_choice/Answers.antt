use Rattle.book.specs.Counting.{those}
use Rattle.book.specs.Masks.{balanced_masks, choose}
use Rattle.masks.proofs.Grouping.{balanced_groups}
use Rattle.masks.proofs.tested_choice.Goals as goal

pub choose-requires-clause-groups : goal.choose-requires-clause-groups
choose-requires-clause-groups c = rw (c.deref.ensures.0, c.balanced_masks-masks.ensures) (balanced_groups _ _ _ c.requires.few c.requires.same c.requires.there c.requires.sided)

pub returns-then-tests-eq0 : goal.returns-then-tests-eq0
unfolding choose balanced_masks those
returns-then-tests-eq0 c = rw (c.new.ensures, c.if-tests-eq0.true)
