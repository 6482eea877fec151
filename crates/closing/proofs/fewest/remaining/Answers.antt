use Rattle.std.specs.Prelude.{◌<◌}
use Rattle.std.proofs.Common.{rules, arith, refl, ◌∙◌}
use Rattle.std.proofs.lemmas.List.{map-id}
use Rattle.book.specs.Rows.{blank_account}
use Rattle.book.specs.Closing.{remaining}
use Rattle.closing.proofs.Listing.{row_is, one_listed, not_listed, all_listed}
use Rattle.closing.proofs.fewest.remaining.Goals as goal
use Rattle.closing.proofs.fewest.remaining.Goals.{then-account-gt0, else-account-gt0}

pub loop-k-preserved : goal.loop-k-preserved
loop-k-preserved c =
    let h : c.loop-k.k < c.args.book.now.account_count = omega arith in
    let a = row_is _ _ _ _ blank_account c.in_use-accounts.ensures.rows h in
    elim c.if-account-gt0.branch [
      | then-account-gt0 w ↦ one_listed c.loop-k.invariant h (rw (← w.list-is) at w.push.ensures.items) (rw (← a) (search rules)) refl
      | else-account-gt0 w ↦ rw w.list-is (not_listed c.loop-k.invariant h (rw (← a) (search rules)))
    ]

pub returns : goal.returns
unfolding remaining
returns c = all_listed c.loop-k.invariant (search rules) ∙ map-id _
