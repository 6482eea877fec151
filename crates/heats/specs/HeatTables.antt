-- A heat table, a port's own (document 02, Job 10) or the printed one (Job 9): which lists of entries are one. Assumes nothing.
use Rattle.std.specs.Prelude.{◌≡◌, List, ℕ, ◌-◌, ◌≤◌, length, get_or}

-- the entry of a heat from 4,300 on, "lowest heat first"
abbrev pub entry_of : List ℕ → ℕ → ℕ
entry_of l e = get_or l (e - 4_300) 0

pub record IsHeatTable (l : List ℕ) : Type 0 where
  -- "1,701 entries"
  pub size : length l ≡ 1_701
  -- "Each must be 1..5,400,000,000."
  pub some : (e : ℕ) → 4_300 ≤ e → e ≤ 6_000 → 1 ≤ entry_of l e
  pub few : (e : ℕ) → 4_300 ≤ e → e ≤ 6_000 → entry_of l e ≤ 5_400_000_000
  -- "From heat 4,301 on no entry is below the one before."
  pub rising : (e : ℕ) → 4_301 ≤ e → e ≤ 6_000 → entry_of l (e - 1) ≤ entry_of l e
