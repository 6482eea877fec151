use Rattle.closing.proofs.Grouping.{GroupedTo}
use Rattle.closing.proofs.fewest.group.Given as goal

abbrev pub invariant-loop-place : goal.invariant-loop-place
invariant-loop-place l = GroupedTo l.book l.side l.accounts l.mask l.place l.list.items
