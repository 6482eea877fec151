-- The numbers of a factory that calls reach stay within their limits. Assumes nothing.
use Rattle.std.specs.Prelude.{◌≡◌, Bool, true, false, cond, [], ◌∷◌, ℕ, zero, suc, ◌+◌, ◌-◌, ◌≤◌, ltb, leb, length, get_or, Result, Ok, Err}
use Rattle.std.proofs.Common.{refl, arith, length-append}
use Rattle.std.proofs.Math.ListN.{get_or-map}
use Rattle.std.proofs.lemmas.Bool.{ltb-false, leb-false}
use Rattle.std.proofs.lemmas.List.{length-map, get_or_append_left, get_or-append_right}
use Rattle.std.proofs.lemmas.List.Edits.{length-remove, get_or-remove_below, get_or-remove_above}
use Rattle.factory.specs.declared.Call.{Call}
use Rattle.factory.specs.Types.{Factory, Outcome}
use Rattle.factory.specs.Answers.{refuse_if}
use Rattle.factory.specs.Holders.{fresh, making, arrive, leave}
use Rattle.factory.specs.Day.{holder, evening, day}
use Rattle.factory.specs.Lists.{step, made, called}
use Rattle.factory.specs.Within.{Within, AlwaysWithin}
use Rattle.factory.proofs.Tests.{by_less}
use Rattle.factory.proofs.laws.Evening.{evening_length, evening_had}

making_within : (daily : ℕ) (f : Factory) → making daily ≡ Ok f → Within f
unfolding making
making_within daily f e = go (ltb daily 1) (ltb 1_000 daily) refl refl e
  where
    go : (s t : Bool) → ltb daily 1 ≡ s → ltb 1_000 daily ≡ t → ◌≡◌ {A = Result Factory ℕ} (cond s (Err 8) (cond t (Err 8) (Ok (fresh daily)))) (Ok f) → Within f
    go true t a b e = let z : ◌≡◌ {A = ℕ} 0 1 = cc in absurd (omega arith)
    go false true a b e = let z : ◌≡◌ {A = ℕ} 0 1 = cc in absurd (omega arith)
    go false false a b e =
        let z : fresh daily ≡ f = cc in
        rw (← z) (record { some = ltb-false _ _ a; few = ltb-false _ _ b; holders = omega arith; claims = λ k. omega arith })

-- where it is refused, the factory is as it was
refused : (f : Factory) (t : Bool) (n : ℕ) (o : Outcome) → Within f → (t ≡ false → Within o.factory) → Within (refuse_if t n f o).factory
refused f true n o w h = w
refused f false n o w h = h refl

one_within : (claim m : ℕ) → claim ≤ 1_000 → get_or (claim ∷ []) m 0 ≤ 1_000
one_within claim zero h = h
one_within claim (suc m) h = omega arith

called_within : (f : Factory) (c : Call) → Within f → Within (step f c).factory
unfolding step arrive leave day
called_within f (Call.Arrive claim) w =
    refused f (ltb 1_000 claim) 8 _ w (λ a.
    refused f (leb 32 (length f.holders)) 33 _ w (λ b.
    record {
      some = w.some;
      few = w.few;
      holders = simp length-append (omega (arith, leb-false 32 (length f.holders) b));
      claims = λ k.
          by_less k (length f.holders)
          (λ g. rw (get_or_append_left f.holders (claim ∷ []) 0 k g) (w.claims k))
          (λ g. rw (get_or-append_right f.holders (claim ∷ []) (length f.holders) k 0 refl g) (one_within claim (k - length f.holders) (ltb-false 1_000 claim a)));
    }))
called_within f (Call.Leave place) w =
    refused f (leb (length f.holders) place) 6 _ w (λ a.
    let b = leb-false (length f.holders) place a in
    record {
      some = w.some;
      few = w.few;
      holders = omega (arith, w.holders, length-remove f.holders place b);
      claims = λ k.
          by_less k place
          (λ g. rw (get_or-remove_below f.holders place 0 k g b) (w.claims k))
          (λ g. rw (get_or-remove_above f.holders place 0 k g b) (w.claims (k + 1)));
    })
called_within f Call.Day w = record {
  some = w.some;
  few = w.few;
  holders = omega (arith, length-map (evening f) (λ h. h.left), evening_length f, w.holders);
  claims = λ k. rw (get_or-map (λ h. h.left) (evening f) k (holder 0)) (omega (arith, evening_had f k, w.claims k));
}

pub within : AlwaysWithin
within f (made daily g e) = making_within daily g e
within g (called {f} c r) = called_within f c (within f r)
