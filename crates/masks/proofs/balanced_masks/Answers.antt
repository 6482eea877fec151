use Rattle.std.proofs.Common.{arith}
use Rattle.book.specs.Masks.{balanced_masks}
use Rattle.masks.proofs.Testing.{none_found, all_found, one_found, not_found, even, uneven, none_before, next_before}
use Rattle.masks.proofs.balanced_masks.Goals as goal
use Rattle.masks.proofs.balanced_masks.Goals.{then-long-short, else-long-short}

pub loop-mask-init : goal.loop-mask-init
loop-mask-init c = (none_found _ _ c.new-masks.ensures, none_before _ _)

pub next_sum-long-requires-clause-before : goal.next_sum-long-requires-clause-before
next_sum-long-requires-clause-before c = rw c.deref.ensures.0 c.sums_before-before_longs.ensures

pub next_sum-short-requires-clause-before : goal.next_sum-short-requires-clause-before
next_sum-short-requires-clause-before c = rw c.deref-in-loop-mask.ensures.0 c.sums_before-before_shorts.ensures

pub loop-mask-preserved : goal.loop-mask-preserved
loop-mask-preserved c =
    let i = c.loop-mask.invariant in
    let l = c.next_sum-long.ensures in
    let s = c.next_sum-short.ensures in
    elim c.if-long-short.branch [
      | then-long-short w ↦ (one_found i.0 c.loop-mask-test.true (even _ _ _ l s w.if-long-short.true) (rw w.masks-is w.push.ensures.items), next_before _ _ _ l s)
      | else-long-short w ↦ (rw w.masks-is (not_found i.0 c.loop-mask-test.true (uneven _ _ _ l s w.if-long-short.false)), next_before _ _ _ l s)
    ]

pub returns : goal.returns
unfolding balanced_masks
returns c = all_found c.loop-mask.invariant.0 c.loop-mask-test.false

-- the last mask is tested
pub returns-after-long-short : goal.returns-after-long-short
unfolding balanced_masks
returns-after-long-short c =
    let i = c.loop-mask.invariant in
    let l = c.next_sum-long.ensures in
    let s = c.next_sum-short.ensures in
    elim c.if-long-short.branch [
      | then-long-short w ↦ all_found (one_found i.0 c.loop-mask-test.true (even _ _ _ l s w.if-long-short.true) (rw w.masks-is w.push.ensures.items)) (omega arith)
      | else-long-short w ↦ rw w.masks-is (all_found (not_found i.0 c.loop-mask-test.true (uneven _ _ _ l s w.if-long-short.false)) (omega arith))
    ]
