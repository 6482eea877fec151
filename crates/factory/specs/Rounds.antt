-- A day's whole rounds, in which each who waits gets a unit: what code asks of them and promises. Assumes nothing.
use Rattle.std.specs.Prelude.{◌≡◌, cond, List, [], ◌∷◌, ℕ, ◌+◌, ◌≤◌, ◌<◌, ◌⊎◌, ltb, min, length, get_or}

-- how many of some holders wait after r whole rounds, by what each had in the morning
unfoldable pub above : ℕ → List ℕ → ℕ
above r [] = 0
above r (x ∷ l) = cond (ltb r x) 1 0 + above r l

-- the units that r whole rounds take
unfoldable pub taken : ℕ → List ℕ → ℕ
taken r [] = 0
taken r (x ∷ l) = min x r + taken r l

-- r rounds of a day are whole, and leave so many units: fewer than wait then, or nobody waits
pub record AreWhole (daily : ℕ) (l : List ℕ) (r rest : ℕ) : Type 0 where
  pub sum : taken r l + rest ≡ daily
  pub last : (rest < above r l) ⊎ (above r l ≡ 0)

-- one of the first n holders waits after r whole rounds, and had so many units in the morning
abbrev pub OneHad : ℕ → ℕ → List ℕ → ℕ → Type 0
OneHad r n l units = (k : ℕ) × (k < n) × (r < get_or l k 0) × (get_or l k 0 ≡ units)

-- of the holders who wait after r whole rounds: how many they are, and the least that one of them had in the morning
pub record Waits (r : ℕ) (l : List ℕ) (count least : ℕ) : Type 0 where
  pub counted : count ≡ above r l
  pub had : (k : ℕ) → k < length l → r < get_or l k 0 → least ≤ get_or l k 0
  pub one : (count ≡ 0) ⊎ OneHad r (length l) l least

-- how many turns code has left, at most, where so many units are left: none where they are fewer than wait
abbrev pub turns_left : ℕ → ℕ → List ℕ → ℕ
turns_left r rest l = cond (ltb rest (above r l)) 0 (above r l)
