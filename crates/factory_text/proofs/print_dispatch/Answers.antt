use Rattle.factory_text.proofs.Listing.{list_reached, accepted_prints, refused_prints}
use Rattle.factory_text.proofs.print_dispatch.Goals as goal

pub print_replies-requires-clause-reached : goal.print_replies-requires-clause-reached
print_replies-requires-clause-reached c = list_reached _ c.in-Ok.ensures.made

pub returns-in-Ok : goal.returns-in-Ok
returns-in-Ok c = accepted_prints _ c.in-Ok.ensures.made _ c.later_lines.ensures.lines c.heading.ensures.printed c.print_replies.ensures

pub returns-in-Err : goal.returns-in-Err
returns-in-Err c = refused_prints _ _ c.in-Err.ensures.made (rw c.number.ensures at c.heading-in-Err.ensures.printed)
