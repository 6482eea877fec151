-- Which numbers are amounts. Assumes nothing.
use Rattle.std.specs.Prelude.{◌≡◌, ◌<◌, ◌≤◌, ℕ, Result, MatchResult}
use Rattle.book.specs.declared.refusals.Refusal.{Refusal}

-- "Proceeds outside 0..10^15 are refused as 8": a number up to 10^15 is read as itself
abbrev pub IsAmount : ℕ → Result ℕ Refusal → Type 0
IsAmount n r = MatchResult r (λ a. (a ≡ n) × (n ≤ 1_000_000_000_000_000)) (λ e. (e ≡ Refusal.OutsideSet) × (1_000_000_000_000_000 < n))
