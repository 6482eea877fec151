-- Groups of accounts as masks, and the choice among them. Assumes nothing.
use Rattle.std.specs.Prelude.{Bool, List, [], ◌∷◌, ℕ, ◌+◌, ◌-◌, ◌/◌, ◌%◌, ◌^◌, min, ltb, eqb, length, bit_and, bit_or}
use Rattle.coal.specs.Choice.{pick}
use Rattle.book.specs.Counting.{list_if, those}

-- ---- masks

-- "accounts are numbered into a mask, one bit each, lowest account lowest bit": those of a list whose bits are set
unfoldable pub members : {A : Type 0} → List A → ℕ → List A
members [] m = []
members (x ∷ xs) m = list_if (eqb (m % 2) 1) x (members xs (m / 2))

-- whether the bit of the account at place k is set
abbrev pub holds : ℕ → ℕ → Bool
holds m k = eqb (m / 2 ^ k % 2) 1

-- ---- the tests

-- the units of a list, added up
unfoldable pub added : List ℕ → ℕ
added [] = 0
added (u ∷ us) = u + added us

-- "equal long and short units": of the long and the short units of each account, 0 on the side that it is not on
abbrev pub is_balanced : List ℕ → List ℕ → ℕ → Bool
is_balanced longs shorts m = eqb (added (members longs m)) (added (members shorts m))

-- "one bit each": so many masks have n accounts, from 1 up
abbrev pub mask_count : ℕ → ℕ
mask_count n = 2 ^ n - 1

-- "up to the budget or the last mask"
abbrev pub tests_made : ℕ → ℕ → ℕ
tests_made budget n = min budget (mask_count n)

-- "Masks from 1 up are tested in rising order for equal long and short units": those that are balanced
unfoldable pub balanced_masks : List ℕ → List ℕ → ℕ → List ℕ
balanced_masks longs shorts tests = those tests 1 (is_balanced longs shorts)

-- ---- the choice

-- two masks have no account in common
abbrev pub disjoint : ℕ → ℕ → Bool
disjoint m used = eqb (bit_and m used) 0

-- the longer list; "on a tie the list of masks, each list rising, that comes first number by number": the one with the lower mask in front, l
abbrev pub longer : List ℕ → List ℕ → List ℕ
longer l r = pick (ltb (length l) (length r)) r l

-- "Of the tested balanced masks choose as many disjoint ones as can be": of a rising list, where the accounts of one mask are taken
unfoldable pub choose : List ℕ → ℕ → List ℕ
choose [] used = []
choose (m ∷ ms) used = pick (disjoint m used) (longer (m ∷ choose ms (bit_or m used)) (choose ms used)) (choose ms used)

-- the accounts of all masks of a list
unfoldable pub united : List ℕ → ℕ
united [] = 0
united (m ∷ ms) = bit_or m (united ms)

-- "then the rest": of n accounts those in no mask of the list
abbrev pub rest : ℕ → List ℕ → ℕ
rest n ms = mask_count n - united ms
