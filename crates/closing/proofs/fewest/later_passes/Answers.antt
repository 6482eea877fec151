use Rattle.std.proofs.Common.{refl}
use Rattle.book.specs.Closing.{gap}
use Rattle.closing.proofs.Planning.{later_count, later_room}
use Rattle.closing.proofs.fewest.later_passes.Goals as goal

pub pair_all-requires-clause-match_count_bound : goal.pair_all-requires-clause-match_count_bound
pair_all-requires-clause-match_count_bound c = rw c.deref-2.ensures.0 (later_room _ c.args.budget _ c.standing-stands.ensures.pairs c.requires.match_count_bound)

pub returns-clause-carried : goal.returns-clause-carried
unfolding gap
returns-clause-carried c =
    rw (c.gap-gap.ensures, c.len.ensures.value, c.remaining-accounts.ensures, c.larger_side-larger.ensures, c.standing-stands.ensures.tests, c.len-pairs.ensures.value, later_count _ c.args.budget _ c.standing-stands.ensures.pairs) refl
