-- Fewest pairs, the statement, in the words of document 02, Job 13. Assumes nothing.
use Rattle.std.specs.Prelude.{◌≡◌, ◌⊎◌, List, [], ◌∷◌, ℕ, zero, suc, ◌+◌, ◌-◌, ◌≤◌, ◌<◌, eqb, length, bit_and}
use Rattle.coal.specs.Choice.{pick}
use Rattle.book.specs.Types.{Match, Book, Answer, Call, Pair}
use Rattle.book.specs.Counting.{All}
use Rattle.book.specs.Rows.{long_units, short_units}
use Rattle.book.specs.Tables.{account_at, match_at}
use Rattle.book.specs.Masks.{balanced_masks}
use Rattle.book.specs.Closing.{first_pass, longs, shorts, chosen}
use Rattle.book.specs.Calls.{step}
use Rattle.book.specs.Lists.{Reached}

-- ---- a pairing

-- the units of the pairs of a list that have account k for their buyer, or for their seller
unfoldable pub units_for : (Pair → ℕ) → ℕ → List Pair → ℕ
units_for end k [] = 0
units_for end k (p ∷ ps) = pick (eqb (end p) k) p.units 0 + units_for end k ps

abbrev pub bought : ℕ → List Pair → ℕ
bought k ps = units_for (λ p. p.buyer) k ps

abbrev pub sold : ℕ → List Pair → ℕ
sold k ps = units_for (λ p. p.seller) k ps

-- a "pairing that empties every position" of a book: each account's units add up to its position
pub record Empties (b : Book) (ps : List Pair) : Type 0 where
  pub long : (k : ℕ) → k < b.account_count → bought k ps ≡ long_units (account_at b k)
  pub short : (k : ℕ) → k < b.account_count → sold k ps ≡ short_units (account_at b k)

-- a match as a pair, and the n matches from number j on
abbrev pub as_pair : Match → Pair
as_pair m = record { buyer = m.buyer; seller = m.seller; units = m.units }

unfoldable pub matched : Book → ℕ → ℕ → List Pair
matched b zero j = []
matched b (suc n) j = as_pair (match_at b j) ∷ matched b n (j + 1)

-- ---- the choice

-- g is of the list
abbrev pub In : ℕ → List ℕ → Type 0
In g [] = ⊥
In g (m ∷ ms) = (g ≡ m) ⊎ In g ms

-- "disjoint": no two have an account in common
abbrev pub Disjoint : List ℕ → Type 0
Disjoint [] = Unit {0}
Disjoint (m ∷ ms) = All (λ g. bit_and m g ≡ 0) ms × Disjoint ms

-- "each list rising"
abbrev pub Upward : List ℕ → Type 0
Upward [] = Unit {0}
Upward (m ∷ ms) = All (λ g. m < g) ms × Upward ms

-- the one list "comes first number by number", or they are the same
abbrev pub First : List ℕ → List ℕ → Type 0
First [] r = Unit {0}
First (x ∷ l) [] = ⊥
First (x ∷ l) (y ∷ r) = (x < y) ⊎ ((x ≡ y) × First l r)

-- a list that may be chosen
pub record Choosable (balanced gs : List ℕ) : Type 0 where
  pub tested : All (λ g. In g balanced) gs
  pub apart : Disjoint gs
  pub rising : Upward gs

-- "Of the tested balanced masks choose as many disjoint ones as can be; on a tie the list of masks, each list rising, that comes first number by number."
pub record Choice (balanced ms : List ℕ) : Type 0 where
  pub choosable : Choosable balanced ms
  pub most : (gs : List ℕ) → Choosable balanced gs → length gs ≤ length ms
  pub first : (gs : List ℕ) → Choosable balanced gs → length gs ≡ length ms → First ms gs

-- ---- an accepted Close of book b, with book e after it

-- "Close carries pairs made, tests made and a gap": p, t and g
pub record Fewest (b : Book) (budget p t g : ℕ) (e : Book) : Type 0 where
  -- "Of the tested balanced masks choose ..", of the accounts that remain after the first pass
  pub chooses : Choice (balanced_masks (longs (first_pass b)) (shorts (first_pass b)) t) (chosen (first_pass b) budget)
  -- "pairs are those made after the first pass": so many matches, and they are such a pairing
  pub made : e.match_count ≡ (first_pass b).match_count + p
  pub empties : Empties (first_pass b) (matched e p (first_pass b).match_count)
  pub emptied : (k : ℕ) → k < e.account_count → (account_at e k).units ≡ 0
  -- "No pairing that empties every position left after the first pass has fewer than pairs less gap."
  pub no_fewer : (ps : List Pair) → Empties (first_pass b) ps → p - g ≤ length ps

-- of every reached book and every budget
abbrev pub FewestPairs : Type 0
FewestPairs = (b : Book) (budget p t g : ℕ) → Reached b → (step b (Call.Close budget)).answer ≡ Answer.Closed p t g → Fewest b budget p t g (step b (Call.Close budget)).book
