use Rattle.std.proofs.Common.{ℕ, refl, sym, arith}
use Rattle.std.proofs.lemmas.Bool.{iff_false}
use Rattle.std.proofs.lemmas.List.{length-replicate}
use Rattle.loading.proofs.laws.Loaded.{length_entries, rules_kept, good, bad, kept, accepted}
use Rattle.loading.proofs.Reading.{none_read, one_read, below_before, above_most, all_fine, all_read}
use Rattle.loading.proofs.PortTable.load.Goals as goal
use Rattle.loading.proofs.PortTable.load.Goals.{then-entry-before-via-then-entry-before, then-entry-before-via-else-entry-before+then-entry-gt-MOST}

pub returns-then-not-has_length_and_count : goal.returns-then-not-has_length_and_count
returns-then-not-has_length_and_count c = sym (kept _ _ (bad _ (λ n m k. iff_false c.if-not-has_length_and_count.ensures refl (n, m))))

pub loop-k-init : goal.loop-k-init
loop-k-init c = none_read _ _ (length-replicate {A = ℕ} 1_701 0)

pub returns-then-entry-before : goal.returns-then-entry-before
returns-then-entry-before c =
    let r = c.loop-k.invariant in
    let u = c.loop-k-test.true in
    let e = c.number_at-entry.ensures in
    sym (kept _ _ (elim c.then-entry-before.branch [
      | then-entry-before-via-then-entry-before w ↦ below_before r _ u e w.if-entry-before.true
      | then-entry-before-via-else-entry-before+then-entry-gt-MOST w ↦ above_most r _ u e (omega arith)
    ]))

pub loop-k-preserved : goal.loop-k-preserved
loop-k-preserved c = one_read c.loop-k.invariant _ c.loop-k-test.true c.number_at-entry.ensures c.if-entry-before.false c.if-entry-gt-MOST.false

pub invariant_of-self : goal.invariant_of-self
invariant_of-self c = let r = c.loop-k.invariant in rw (all_read r c.loop-k-test.false) (rules_kept _ (length_entries _) (all_fine r c.loop-k-test.false))

pub returns : goal.returns
returns c =
    let r = c.loop-k.invariant in
    let h = c.if-not-has_length_and_count.ensures.0 refl in
    rw (all_read r c.loop-k-test.false) (sym (accepted _ _ (good _ h.0 h.1 (all_fine r c.loop-k-test.false))))
