-- How much an account's cash and the fund can come to: what was deposited, and for each step that a match has come, the most that a settlement
-- moves; and cells of no account hold no cash. By cases on the six changes. Assumes nothing.
use Rattle.std.specs.Prelude.{◌≡◌, refl, Bool, List, [], ◌∷◌, ℕ, zero, suc, ◌+◌, ◌*◌, ◌≤◌, eqb, ℤ, pos, nat_abs, get_or, replicate}
use Rattle.std.proofs.Common.{ap, ◌∙◌, arith}
use Rattle.coal.specs.Choice.{pick}
use Rattle.whole.specs.Whole.{natAbs_sum, natAbs_paid}
use Rattle.heats.specs.HeatTables.{IsHeatTable}
use Rattle.book.specs.Types.{Stage, Account, Match, Book}
use Rattle.book.specs.Counting.{sum}
use Rattle.book.specs.Rows.{blank_account, debited}
use Rattle.book.specs.Tables.{account_at, match_at, pay, charge}
use Rattle.book.specs.Opening.{opening}
use Rattle.book.specs.Entries.{Entry}
use Rattle.book.specs.Lists.{Reached, opened, called, entry_sum}
use Rattle.book.proofs.laws.Counting.{by_pick, sum_most, at_set, at_other}
use Rattle.book.proofs.laws.Answered.{of_opening}
use Rattle.book.proofs.laws.Sound.{SoundTables}
use Rattle.book.proofs.laws.Posting.{Within, weight, Posted, posted_cash}
use Rattle.book.proofs.laws.Settling.{rank, most, settlement_sum}
use Rattle.book.proofs.laws.Steps.{reached_tables}
use Rattle.book.proofs.laws.Journal.{stages, Change, refused, kept, joined, paid_in, paid_out, settled, changed}

-- ---- entries

-- an account that has no entry
entry_none : (n k : ℕ) (es : List Entry) → Within n es → n ≤ k → entry_sum k es ≡ pos 0
unfolding entry_sum
entry_none n k [] w h = refl
entry_none n k (e ∷ es) w h = rw (entry_none n k es w.1 h, at_other e.account k e.amount (λ d. absurd (omega (arith, w.0)))) refl

entry_few : (k : ℕ) (es : List Entry) → nat_abs (entry_sum k es) ≤ weight es
unfolding entry_sum weight
entry_few k [] = omega arith
entry_few k (e ∷ es) =
    let x = pick (eqb e.account k) e.amount (pos 0) in
    let h : nat_abs x ≤ nat_abs e.amount = by_pick (λ (z : ℤ). nat_abs z ≤ nat_abs e.amount) (eqb e.account k) (λ q. omega arith) (λ q. omega arith) in
    omega (arith, natAbs_sum x (entry_sum k es), entry_few k es)

module _ {l m : List Account} {es : List Entry} (p : Posted l m es) (k : ℕ) where
  posted_few : nat_abs (get_or m k blank_account).cash ≤ nat_abs (get_or l k blank_account).cash + weight es
  posted_few = rw (posted_cash p k) (omega (arith, natAbs_sum (get_or l k blank_account).cash (entry_sum k es), entry_few k es))

  posted_blank : (n : ℕ) → Within n es → n ≤ k → (get_or l k blank_account).cash ≡ pos 0 → (get_or m k blank_account).cash ≡ pos 0
  posted_blank n w h e = posted_cash p k ∙ rw (e, entry_none n k es w h) refl

-- ---- the bound

pub record Bounded (b : Book) : Type 0 where
  pub cash : (k : ℕ) → nat_abs (account_at b k).cash ≤ b.deposited + most * stages b
  pub fund : b.fund ≤ most * stages b
  pub blank : (k : ℕ) → b.account_count ≤ k → (account_at b k).cash ≡ pos 0

change_bounded : (b : Book) → SoundTables b → Bounded b → {es : List Entry} {d w : ℕ} {t : Bool} {e : Book} → Change b es d w t e → Bounded e
unfolding pay charge stages weight
change_bounded b r z refused = z
change_bounded b r z (kept h) = record {
  cash = λ k. rw (h.cash k) (omega (arith, z.cash k, h.stages, h.deposited));
  fund = omega (arith, z.fund, h.fund, h.stages);
  blank = λ k n. h.cash k ∙ z.blank k (omega (arith, h.count));
}
change_bounded b r z (joined a h) = record {
  cash = λ k. at_set (λ (x : Account). nat_abs x.cash ≤ b.deposited + most * stages b) b.accounts b.account_count k a blank_account (λ q. rw h (omega arith)) (z.cash k);
  fund = z.fund;
  blank = λ k n. at_set (λ (x : Account). x.cash ≡ pos 0) b.accounts b.account_count k a blank_account (λ q. h) (z.blank k (omega arith));
}
change_bounded b r z (paid_in i x h p) = record {
  cash = λ k. omega (arith, posted_few p k, z.cash k);
  fund = z.fund;
  blank = λ k n. posted_blank p k b.account_count (h, tt) n (z.blank k n);
}
change_bounded b r z (paid_out i x h n p) = record {
  cash = λ k. at_set (λ (a : Account). nat_abs a.cash ≤ b.deposited + most * stages b) b.accounts i k (debited (account_at b i) x) blank_account (λ q. omega (arith, natAbs_paid (account_at b i).cash x n, z.cash i)) (z.cash k);
  fund = z.fund;
  blank = λ k m. posted_blank p k b.account_count (h, tt) m (z.blank k m);
}
change_bounded b r z (settled s) =
    let n = settlement_sum (λ (m : Match). rank m.stage) s r in
    let d = ap (λ (x : Book). x.deposited) s.same in
    let c = ap (λ (x : Book). x.account_count) s.same in
    record {
      cash = λ k. omega (arith, posted_few s.posted k, z.cash k, s.small, s.later);
      fund = omega (arith, z.fund, s.fund, s.gained_small, s.later);
      blank = λ k m. posted_blank s.posted k b.account_count s.within (omega arith) (z.blank k (omega arith));
    }

blank_cash : (n k : ℕ) → (get_or (replicate n blank_account) k blank_account).cash ≡ pos 0
blank_cash zero k = refl
blank_cash (suc n) zero = refl
blank_cash (suc n) (suc k) = blank_cash n k

opening_bounded : (heats : List ℕ) → IsHeatTable heats → (kind t r p : ℕ) → Bounded (opening heats kind t r p).book
unfolding stages sum
opening_bounded = of_opening Bounded (λ heats s board t r p g₁ g₂ g₃ g₄ g₅. record { cash = λ k. rw (blank_cash 32 k) (omega arith); fund = omega arith; blank = λ k n. blank_cash 32 k })

pub bounded : {b : Book} → Reached b → Bounded b
bounded (opened heats s kind t r p h) = opening_bounded heats s kind t r p
bounded (called {b = b} c h) = let r = reached_tables h in change_bounded b r (bounded h) (changed b c r)

rank_few : (s : Stage) → rank s ≤ 3
rank_few Stage.Paired = omega arith
rank_few Stage.Prepaid = omega arith
rank_few Stage.Held = omega arith
rank_few Stage.Closed = omega arith
rank_few Stage.Ended = omega arith
rank_few Stage.Funded = omega arith
rank_few Stage.Awaiting = omega arith

pub stages_few : (b : Book) → SoundTables b → stages b ≤ 567
unfolding stages
stages_few b r = omega (arith, r.matches_few, sum_most (λ j. rank (match_at b j).stage) 3 b.match_count 0 (λ j. rank_few (match_at b j).stage))
