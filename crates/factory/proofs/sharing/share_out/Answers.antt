use Rattle.std.proofs.Common.{ap, ◌∙◌, sym, arith, map}
use mathlib.Core.Logic.{inl, inr, ⊎_elim}
use Rattle.factory.proofs.laws.Levels.{evening_is}
use Rattle.factory.proofs.LastRound.{one_more, no_more, one_shared, all_shared}
use Rattle.factory.proofs.sharing.share_out.Goals as goal
use Rattle.factory.proofs.sharing.share_out.Goals.{then-share-left+then-rest-gt0, else-share-left}

pub loop-left-preserved : goal.loop-left-preserved
loop-left-preserved c =
    elim c.if-share-left.branch [
      | then-share-left+then-rest-gt0 w ↦
          rw (c.push.ensures.items, w.rest-is, w.share-is, c.min-share.ensures)
          (one_shared c.loop-left.invariant c.loop-left-test.true _ _ (one_more _ _ _ _ (omega (arith, c.min-share.ensures, w.if-share-left.true)) (omega (arith, w.if-rest-gt0.true))))
      | else-share-left w ↦
          rw (c.push.ensures.items, w.rest-is, w.share-is, c.min-share.ensures)
          (one_shared c.loop-left.invariant c.loop-left-test.true _ _ (no_more _ _ _ _ (⊎_elim (λ h. inr (omega (arith, h.1))) (λ h. inl (omega (arith, c.min-share.ensures, h))) w.else-share-left.either)))
    ]

pub returns-clause-shares : goal.returns-clause-shares
returns-clause-shares c = (all_shared c.loop-left.invariant c.loop-left-test.false).0 ∙ sym (ap (λ hs. map (λ h. h.share) hs) (evening_is _ _ _ _ c.whole_rounds-whole.ensures))

pub returns-clause-left : goal.returns-clause-left
returns-clause-left c = (all_shared c.loop-left.invariant c.loop-left-test.false).1 ∙ sym (ap (λ hs. map (λ h. h.left) hs) (evening_is _ _ _ _ c.whole_rounds-whole.ensures))
