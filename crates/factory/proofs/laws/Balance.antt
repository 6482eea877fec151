-- Units are neither lost nor made: one call, then any list of calls. Assumes nothing.
use Rattle.std.specs.Prelude.{◌≡◌, Bool, true, false, cond, List, [], ◌∷◌, ℕ, ◌+◌, ltb, leb, length, sum}
use Rattle.std.proofs.Common.{refl, arith}
use Rattle.std.proofs.lemmas.Bool.{leb-false}
use Rattle.std.proofs.lemmas.List.Sums.{sum_by_push, sum_by-remove}
use Rattle.factory.specs.declared.Call.{Call}
use Rattle.factory.specs.Types.{Factory, Outcome}
use Rattle.factory.specs.Answers.{is_accepted, refuse_if}
use Rattle.factory.specs.Holders.{arrive, leave}
use Rattle.factory.specs.Day.{day}
use Rattle.factory.specs.Lists.{step, after, claim_of, shares_of, uncollected_of, sum_accepted, claimed, shared_out, uncollected, waiting}
use Rattle.factory.specs.Balance.{Balance}
use Rattle.factory.proofs.laws.Evening.{evening_all}

-- what a call claims comes to what it shares out, what its leaver leaves uncollected and what it adds to those still waiting
pub record Balanced (f : Factory) (c : Call) (o : Outcome) : Type 0 where
  pub same : cond (is_accepted o.answer) (claim_of f c) 0 + waiting f ≡ cond (is_accepted o.answer) (sum (shares_of o.answer)) 0 + cond (is_accepted o.answer) (uncollected_of f c) 0 + waiting o.factory

refused : (f : Factory) (c : Call) (t : Bool) (n : ℕ) (o : Outcome) → (t ≡ false → Balanced f c o) → Balanced f c (refuse_if t n f o)
refused f c true n o h = record { same = omega arith }
refused f c false n o h = h refl

balanced : (f : Factory) (c : Call) → Balanced f c (step f c)
unfolding step arrive leave day
balanced f (Call.Arrive claim) =
    refused f (Call.Arrive claim) (ltb 1_000 claim) 8 _ (λ a.
    refused f (Call.Arrive claim) (leb 32 (length f.holders)) 33 _ (λ b.
    record { same = omega (arith, sum_by_push (λ x. x) f.holders claim) }))
balanced f (Call.Leave place) =
    refused f (Call.Leave place) (leb (length f.holders) place) 6 _ (λ a.
    record { same = omega (arith, sum_by-remove (λ x. x) f.holders place 0 (leb-false _ _ a)) })
balanced f Call.Day = record { same = omega (arith, evening_all f) }

list_balanced : (f : Factory) (cs : List Call) → claimed f cs + waiting f ≡ shared_out f cs + uncollected f cs + waiting (after f cs)
unfolding sum_accepted after
list_balanced f [] = omega arith
list_balanced f (c ∷ cs) = omega (arith, (balanced f c).same, list_balanced (step f c).factory cs)

pub balance : Balance
balance f e cs =
    let z : waiting f ≡ 0 = rw e refl in
    omega (arith, list_balanced f cs)
