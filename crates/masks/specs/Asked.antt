-- What the functions of the choice of groups ask and answer. Assumes nothing.
use Rattle.std.specs.Prelude.{◌≡◌, ◌≢◌, List, [], ◌∷◌, ℕ, ◌+◌, ◌*◌, ◌^◌, ◌≤◌, ◌<◌, get_or, take, length, bit_or, count_ones}
use Rattle.coal.specs.Choice.{pick}
use Rattle.book.specs.Masks.{added, disjoint, longer}

-- each account has units on one side: its long and its short units differ
abbrev pub Sided : List ℕ → List ℕ → Type 0
Sided longs shorts = (k : ℕ) → k < length longs → get_or longs k 0 ≢ get_or shorts k 0

-- of each of the first n units of a list those before it, added up
pub record Before (us : List ℕ) (n : ℕ) (sums : List ℕ) : Type 0 where
  pub size : length sums ≡ n
  pub each : (k : ℕ) → k < n → get_or sums k 0 ≡ added (take k us)

-- a mask of two or more of n accounts
pub record IsGroup (n m : ℕ) : Type 0 where
  pub few : m < 2 ^ n
  pub two : 2 ≤ count_ones m

-- a table of lists of masks, one by each set u of n accounts that may be taken: it leaves room for groups of the accounts that are not
pub record HasRoom (n : ℕ) (t : List (List ℕ)) : Type 0 where
  pub each : (u : ℕ) → u < 2 ^ n → 2 * length (get_or t u []) + count_ones u ≤ 10

-- the list by the accounts u, with mask m in front where it is apart from them and where that is no shorter
abbrev pub with_mask : ℕ → List (List ℕ) → ℕ → List ℕ
with_mask m t u = pick (disjoint m u) (longer (m ∷ get_or t (bit_or m u) []) (get_or t u [])) (get_or t u [])

-- mask m is put into each of these lists
pub record Adds (n m : ℕ) (t r : List (List ℕ)) : Type 0 where
  pub size : length r ≡ 1024
  pub each : (u : ℕ) → u < 2 ^ n → get_or r u [] ≡ with_mask m t u
