-- Going through numbers: turns, searches, counts, sums and lists over the n numbers from i on. Assumes nothing.
use Rattle.std.specs.Prelude.{Bool, true, false, List, [], ◌∷◌, ℕ, zero, suc, ◌+◌, ℤ, pos, ◌+ℤ◌, Option, Some, None}
use Rattle.coal.specs.Choice.{pick}

-- n turns from i on, each a function of the number and the state
unfoldable pub iter : {S : Type 0} → ℕ → ℕ → (ℕ → S → S) → S → S
iter zero i f s = s
iter (suc n) i f s = iter n (i + 1) f (f i s)

-- the lowest of the n numbers from i on at which p holds
unfoldable pub lowest : ℕ → ℕ → (ℕ → Bool) → Option ℕ
lowest zero i p = None
lowest (suc n) i p = pick (p i) (Some i) (lowest n (i + 1) p)

abbrev pub one_if : Bool → ℕ
one_if true = 1
one_if false = 0

-- at how many of the n numbers from i on p holds
unfoldable pub tally : ℕ → ℕ → (ℕ → Bool) → ℕ
tally zero i p = 0
tally (suc n) i p = one_if (p i) + tally n (i + 1) p

-- f added up over the n numbers from i on
unfoldable pub sum : ℕ → ℕ → (ℕ → ℕ) → ℕ
sum zero i f = 0
sum (suc n) i f = f i + sum n (i + 1) f

-- the same, of signed amounts
unfoldable pub total : ℕ → ℕ → (ℕ → ℤ) → ℤ
total zero i f = pos 0
total (suc n) i f = f i +ℤ total n (i + 1) f

-- x in front where the test holds
abbrev pub list_if : {A : Type 0} → Bool → A → List A → List A
list_if true x l = x ∷ l
list_if false x l = l

-- those of the n numbers from i on at which p holds, by number
unfoldable pub those : ℕ → ℕ → (ℕ → Bool) → List ℕ
those zero i p = []
those (suc n) i p = list_if (p i) i (those n (i + 1) p)

-- P holds of each member of a list
abbrev pub All : {A : Type 0} → (A → Type 0) → List A → Type 0
All P [] = Unit {0}
All P (x ∷ l) = P x × All P l
