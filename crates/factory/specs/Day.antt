-- A day's dispatch. Assumes nothing.
use Rattle.std.specs.Prelude.{Bool, List, map, ℕ, zero, suc, ◌+◌, ◌-◌, ltb, drop, set, get_or, Option, option_map, unwrap_or}
use Rattle.std.specs.List.{position_from}
use Rattle.std.specs.Option.{option_or}
use Rattle.factory.specs.Types.{Factory, Outcome}
use Rattle.factory.specs.Answers.{shared}
use Rattle.factory.specs.Holders.{with_holders}

-- a holder on a day: what it has left to collect, and its share so far
pub record Holder : Type 0 where
  pub left : ℕ
  pub share : ℕ

-- a holder who has so much left in the morning
abbrev pub holder : ℕ → Holder
holder left = record { left = left; share = 0 }

-- "skipping whoever is served"
abbrev pub waits : Holder → Bool
waits h = ltb 0 h.left

-- "go round the holders": the place of who waits next, from a place on and then from the first
unfoldable pub next_waiting : ℕ → List Holder → Option ℕ
next_waiting place hs = option_or (position_from waits place (drop place hs)) (position_from waits 0 hs)

-- one unit for a holder
abbrev pub given : Holder → Holder
given h = record { left = h.left - 1; share = h.share + 1 }

abbrev pub give : ℕ → List Holder → List Holder
give k hs = set hs k (given (get_or hs k (holder 0)))

-- "A day's units go round the holders one at a time, skipping whoever is served, until the day is spent or nobody waits": the next unit goes to who waits next
-- from a place on, and the others on from the place behind
unfoldable pub dispatched : ℕ → ℕ → List Holder → List Holder
dispatched zero place hs = hs
dispatched (suc units) place hs = unwrap_or (option_map (λ k. dispatched units (k + 1) (give k hs)) (next_waiting place hs)) hs

-- "Each day starts at the first holder."
unfoldable pub evening : Factory → List Holder
evening f = dispatched f.daily 0 (map holder f.holders)

-- "the result is each holder's share"; what a day does not spend lapses
unfoldable pub day : Factory → Outcome
day f = shared (map (λ h. h.share) (evening f)) (with_holders f (map (λ h. h.left) (evening f)))
