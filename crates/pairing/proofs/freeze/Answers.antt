use Rattle.std.proofs.Common.{sym, ap, ◌∙◌, arith, ne_eqb}
use Rattle.std.proofs.lemmas.List.{set-get_or}
use Rattle.book.specs.Pairing.{Freezing, freeze_turn}
use Rattle.book.specs.Tables.{free_at}
use Rattle.reached.specs.Loops.{one_turned, all_turned}
use Rattle.pairing.proofs.Freezing.{nothing_left}
use Rattle.pairing.proofs.freeze.Goals as goal
use Rattle.pairing.proofs.freeze.Goals.{then-is_free_of, else-is_free_of}

pub returns-then-left-eq0 : goal.returns-then-left-eq0
returns-then-left-eq0 c = set-get_or _ _ _ ∙ ap (λ (t : Freezing). t.receipts) (sym (nothing_left _ _ _ _ _ _ c.if-left-eq0.true) ∙ c.loop-receipt.invariant.same)

pub loop-receipt-preserved : goal.loop-receipt-preserved
unfolding freeze_turn free_at
loop-receipt-preserved c =
    one_turned c.loop-receipt.invariant (omega arith)
    (elim c.if-is_free_of.branch [
      | then-is_free_of w ↦ rw (w.lodged-is, w.left-is, ne_eqb _ _ c.if-left-eq0.false, sym c.is_free_of.ensures ∙ w.if-is_free_of.true, w.freeze.ensures)
      | else-is_free_of w ↦ rw (w.lodged-is, w.left-is, ne_eqb _ _ c.if-left-eq0.false, sym c.is_free_of.ensures ∙ w.if-is_free_of.false, set-get_or)
    ])

pub returns : goal.returns
returns c = ap (λ (t : Freezing). t.receipts) (all_turned c.loop-receipt.invariant (omega arith))
