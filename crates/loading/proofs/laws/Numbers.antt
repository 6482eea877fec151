-- The numbers of a table's text, as document 02's Job 10 has them, proved as one computed list. Assumes nothing.
use Rattle.std.specs.Prelude.{◌≡◌, refl, List, [], ◌∷◌, ℕ}
use Rattle.loading.specs.Loading.{number_at}

-- "8-byte numbers, most significant byte first": the count 1,701, the greatest entry, a 1 in each of the eight places, the greatest number, and a number behind the count
pub numbers : List ℕ
numbers =
    number_at (0 ∷ 0 ∷ 0 ∷ 0 ∷ 0 ∷ 0 ∷ 6 ∷ 165 ∷ []) 0
    ∷ number_at (0 ∷ 0 ∷ 0 ∷ 1 ∷ 65 ∷ 221 ∷ 118 ∷ 0 ∷ []) 0
    ∷ number_at (1 ∷ 0 ∷ 0 ∷ 0 ∷ 0 ∷ 0 ∷ 0 ∷ 0 ∷ []) 0
    ∷ number_at (0 ∷ 1 ∷ 0 ∷ 0 ∷ 0 ∷ 0 ∷ 0 ∷ 0 ∷ []) 0
    ∷ number_at (0 ∷ 0 ∷ 1 ∷ 0 ∷ 0 ∷ 0 ∷ 0 ∷ 0 ∷ []) 0
    ∷ number_at (0 ∷ 0 ∷ 0 ∷ 1 ∷ 0 ∷ 0 ∷ 0 ∷ 0 ∷ []) 0
    ∷ number_at (0 ∷ 0 ∷ 0 ∷ 0 ∷ 1 ∷ 0 ∷ 0 ∷ 0 ∷ []) 0
    ∷ number_at (0 ∷ 0 ∷ 0 ∷ 0 ∷ 0 ∷ 1 ∷ 0 ∷ 0 ∷ []) 0
    ∷ number_at (0 ∷ 0 ∷ 0 ∷ 0 ∷ 0 ∷ 0 ∷ 1 ∷ 0 ∷ []) 0
    ∷ number_at (0 ∷ 0 ∷ 0 ∷ 0 ∷ 0 ∷ 0 ∷ 0 ∷ 1 ∷ []) 0
    ∷ number_at (255 ∷ 255 ∷ 255 ∷ 255 ∷ 255 ∷ 255 ∷ 255 ∷ 255 ∷ []) 0
    ∷ number_at (0 ∷ 0 ∷ 0 ∷ 0 ∷ 0 ∷ 0 ∷ 6 ∷ 165 ∷ 1 ∷ 2 ∷ 3 ∷ 4 ∷ 5 ∷ 6 ∷ 7 ∷ 8 ∷ []) 8
    ∷ []

pub number_limits : numbers
    ≡ 1_701
    ∷ 5_400_000_000
    ∷ 72_057_594_037_927_936
    ∷ 281_474_976_710_656
    ∷ 1_099_511_627_776
    ∷ 4_294_967_296
    ∷ 16_777_216
    ∷ 65_536
    ∷ 256
    ∷ 1
    ∷ 18_446_744_073_709_551_615
    ∷ 72_623_859_790_382_856
    ∷ []
unfolding numbers number_at
number_limits = refl
