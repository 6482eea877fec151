-- The statement on a day, in the words of document 02's Job 14. Assumes nothing.
use Rattle.std.specs.Prelude.{◌≡◌, List, ℕ, ◌+◌, ◌/◌, ◌≤◌, ◌<◌, min, length, get_or, sum}
use Rattle.factory.specs.Types.{Factory}
use Rattle.factory.specs.Day.{day}
use Rattle.factory.specs.Lists.{shares_of, waiting}

-- what the holder at a place had left that morning
abbrev pub had : Factory → ℕ → ℕ
had f k = get_or f.holders k 0

-- of a list of shares that of the holder at a place
abbrev pub share : List ℕ → ℕ → ℕ
share shares k = get_or shares k 0

-- what a day's shares are
pub record Fair (f : Factory) (shares : List ℕ) : Type 0 where
  -- "the result is each holder's share"
  pub each : length shares ≡ length f.holders
  -- "With n holders, none gets less than the lesser of what it had left to collect that morning and the day's units divided by n, down."
  pub least : (k : ℕ) → k < length f.holders → min (had f k) (f.daily / length f.holders) ≤ share shares k
  -- and none more than it had left
  pub most : (k : ℕ) → k < length f.holders → share shares k ≤ had f k
  -- "until the day is spent or nobody waits": all shares together are the lesser of the day's units and all that was left
  pub all : sum shares ≡ min f.daily (waiting f)
  -- "go round the holders one at a time": none gets more than one unit more than a holder who still waits
  pub even : (j k : ℕ) → j < length f.holders → k < length f.holders → share shares k < had f k → share shares j ≤ share shares k + 1
  -- "Each day starts at the first holder": none gets more than one before it who still waits
  pub first : (j k : ℕ) → j ≤ k → k < length f.holders → share shares j < had f j → share shares k ≤ share shares j

-- the shares of a day are so, and no others are; and what the day leaves
pub record Shared (f : Factory) : Type 0 where
  pub fair : Fair f (shares_of (day f).answer)
  pub only : (others : List ℕ) → Fair f others → others ≡ shares_of (day f).answer
  -- "skipping whoever is served": each holder keeps its place, a served one too
  pub places : length (day f).factory.holders ≡ length f.holders
  -- each has left to collect what it had that morning, but for its share
  pub left : (k : ℕ) → share (shares_of (day f).answer) k + had (day f).factory k ≡ had f k
  -- "a fixed number of units a day": the next day has as many
  pub daily : (day f).factory.daily ≡ f.daily

-- of every factory
abbrev pub Fairness : Type 0
Fairness = (f : Factory) → Shared f
