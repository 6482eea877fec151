-- The heat table at both ends of each of its bands. Assumes nothing.
use Rattle.std.specs.Prelude.{◌≡◌, refl, List, [], ◌∷◌, ℕ, length, get_or}
use Rattle.heats.specs.Each.{each}
use Rattle.heats.specs.Numerators.{numerator, heat_table}

-- "1,701 entries": how many there are; then those of 4,300, 4,799, 4,800, 5,299, 5,300 and 6,000, by their places
pub computed : List ℕ
computed =
    length heat_table
    ∷ get_or heat_table 0 0
    ∷ get_or heat_table 499 0
    ∷ get_or heat_table 500 0
    ∷ get_or heat_table 999 0
    ∷ get_or heat_table 1_000 0
    ∷ get_or heat_table 1_700 0
    ∷ []

pub limits : computed ≡ 1_701 ∷ 3_635_951_000 ∷ 4_057_890_430 ∷ 4_166_553_600 ∷ 4_599_701_568 ∷ 4_770_000_000 ∷ 5_400_000_000 ∷ []
unfolding computed each numerator heat_table
limits = refl
