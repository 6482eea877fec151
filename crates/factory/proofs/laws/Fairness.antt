-- Every day is fair. Assumes nothing.
use Rattle.std.specs.Prelude.{◌≡◌, refl, List, map, ℕ, ◌+◌, ◌-◌, ◌*◌, ◌/◌, ◌≤◌, ◌<◌, min, length, sum}
use Rattle.std.proofs.Common.{ap, ◌∙◌, arith}
use Rattle.std.proofs.lemmas.List.{length-map}
use Rattle.std.proofs.Math.ListN.{get_or-map}
use Rattle.std.proofs.Math.Nat.{div-lt_iff_lt-mul}
use Rattle.std.proofs.lemmas.Bool.{ltb-true}
use mathlib.Core.Logic.{⊎_elim}
use Rattle.factory.specs.Types.{Factory}
use Rattle.factory.specs.Day.{Holder, holder, evening, day}
use Rattle.factory.specs.Rounds.{above, taken, AreWhole}
use Rattle.factory.specs.Lists.{shares_of, waiting}
use Rattle.factory.specs.Fairness.{had, share, Fair, Fairness}
use Rattle.factory.proofs.Tests.{by_less}
use Rattle.factory.proofs.laws.Rounds.{rounded, rounded_length}
use Rattle.factory.proofs.laws.Levels.{at_level, still_waits, taken_next, waiting_are, evening_is, some_whole}
use Rattle.factory.proofs.laws.Only.{only}
use Rattle.factory.proofs.laws.Evening.{at, level_at, by_unit, none_before, round_shares, level_shares, taken_most, taken_all, taken_few, nobody_above, evening_had, evening_length}

-- a day of r whole rounds and a last one with the units that they leave
module _ (f : Factory) (r rest : ℕ) (w : AreWhole f.daily f.holders r rest) where
  -- the holders before the last round
  abbrev before : List Holder
  before = map (at_level r) f.holders

  abbrev shares : List ℕ
  shares = shares_of (day f).answer

  shares_are : shares ≡ map (λ h. h.share) (rounded rest before)
  unfolding day evening
  shares_are = ap (λ hs. map (λ h. h.share) hs) (evening_is f.daily f.holders r rest w)

  share_is : (k : ℕ) → share shares k ≡ (at (rounded rest before) k).share
  share_is k = rw shares_are (get_or-map (λ h. h.share) (rounded rest before) k (holder 0))

  -- with the last round a holder has what it has of the whole ones, or a unit more
  at_least : (k : ℕ) → min (had f k) r ≤ share shares k
  at_least k =
      let b = level_at r f.holders k in
      rw (share_is k) (by_unit (λ h. min (had f k) r ≤ h.share) rest before k (rw b (omega arith)) (λ v. rw b (omega arith)))

  at_most : (k : ℕ) → share shares k ≤ min (had f k) (r + 1)
  at_most k =
      let b = level_at r f.holders k in
      rw (share_is k)
      (by_unit (λ h. h.share ≤ min (had f k) (r + 1)) rest before k
      (rw b (omega arith))
      (λ v. let g = ltb-true 0 (had f k - r) (rw b at v) in rw b (omega arith)))

  -- of those who wait after the whole rounds, none gets more than one before it
  ahead : (j k : ℕ) → j ≤ k → r < had f j → r < had f k → share shares k ≤ share shares j
  ahead j k h a b =
      let n = none_before rest before j k h (rw (level_at r f.holders j) (still_waits r (had f j) a)) in
      omega (arith, n, share_is j, share_is k, ap (λ x. x.share) (level_at r f.holders j), ap (λ x. x.share) (level_at r f.holders k))

  all_shares : sum shares ≡ min f.daily (waiting f)
  all_shares =
      let s : sum shares ≡ taken r f.holders + min rest (above r f.holders) = rw (shares_are, ← waiting_are r f.holders, ← level_shares r f.holders) (round_shares rest before) in
      ⊎_elim
      (λ (h : rest < above r f.holders). omega (arith, w.sum, s, taken_next r f.holders, taken_few (r + 1) f.holders))
      (λ (h : above r f.holders ≡ 0). omega (arith, w.sum, s, taken_all r f.holders h))
      w.last

  -- a holder who still waits has the day's units divided by the holders at least
  divided : (k : ℕ) → k < length f.holders → share shares k < had f k → f.daily / length f.holders ≤ share shares k
  divided k h g =
      ⊎_elim
      (λ (a : rest < above r f.holders).
      let d : f.daily < (r + 1) * length f.holders = omega (arith, w.sum, taken_next r f.holders, taken_most (r + 1) f.holders) in
      let n : 0 < length f.holders = omega arith in
      let q : f.daily / length f.holders < r + 1 = (div-lt_iff_lt-mul n).1 d in
      omega (arith, at_least k))
      (λ (a : above r f.holders ≡ 0). absurd (omega (arith, at_least k, nobody_above r f.holders a k)))
      w.last

  fair : Fair f shares
  fair = record {
    each = rw shares_are (length-map (rounded rest before) (λ h. h.share) ∙ rounded_length rest before ∙ length-map f.holders (at_level r));
    least = λ k h. by_less (share shares k) (had f k) (λ g. omega (arith, divided k h g)) (λ g. omega arith);
    most = λ k h. omega (arith, at_most k);
    all = all_shares;
    even = λ j k g h e. omega (arith, at_most j, at_least k);
    first = λ j k g h e. by_less r (had f k) (λ b. ahead j k g (omega (arith, at_least j)) b) (λ b. omega (arith, at_most k, at_least j));
  }

-- ---- what a day leaves

left_is : (f : Factory) (k : ℕ) → share (shares_of (day f).answer) k + had (day f).factory k ≡ had f k
unfolding day
left_is f k = rw (get_or-map (λ h. h.share) (evening f) k (holder 0), get_or-map (λ h. h.left) (evening f) k (holder 0)) (evening_had f k)

places_are : (f : Factory) → length (day f).factory.holders ≡ length f.holders
unfolding day
places_are f = length-map (evening f) (λ h. h.left) ∙ evening_length f

daily_is : (f : Factory) → (day f).factory.daily ≡ f.daily
unfolding day
daily_is f = refl

pub fairness : Fairness
fairness f =
    let s = some_whole f.daily f.holders in
    let a = fair f s.0 s.1 s.2 in
    record { fair = a; only = λ others b. only f others (shares_of (day f).answer) b a; places = places_are f; left = left_is f; daily = daily_is f }
