-- The statement on a factory's numbers, in the words of document 02's Job 14. Assumes nothing.
use Rattle.std.specs.Prelude.{ℕ, ◌≤◌, length, get_or}
use Rattle.factory.specs.Types.{Factory}
use Rattle.factory.specs.Lists.{Reached}

pub record Within (f : Factory) : Type 0 where
  -- "A factory loads a fixed number of units a day, 1 to 1,000"
  pub some : 1 ≤ f.daily
  pub few : f.daily ≤ 1_000
  -- "for up to 32 holders"
  pub holders : length f.holders ≤ 32
  -- "each with 0 to 1,000 units to collect"
  pub claims : (k : ℕ) → get_or f.holders k 0 ≤ 1_000

-- of every factory that calls can reach
abbrev pub AlwaysWithin : Type 0
AlwaysWithin = (f : Factory) → Reached f → Within f
