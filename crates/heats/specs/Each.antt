-- A list made by a rule, and the rule at each place of it. Assumes nothing.
use Rattle.std.specs.Prelude.{◌≡◌, List, [], ◌∷◌, ℕ, zero, suc, ◌+◌, ◌<◌, length, get_or}
use Rattle.std.proofs.Common.{refl, ◌∙◌, sym, ap, add-zero, add-suc, suc-add, le_of_suc-le-suc, not-suc-le-zero}

-- f of each of the n numbers from i on
unfoldable pub each : (ℕ → ℕ) → ℕ → ℕ → List ℕ
each f zero i = []
each f (suc n) i = f i ∷ each f n (suc i)

-- what stands at place k
pub each_at : (f : ℕ → ℕ) (n i k : ℕ) → k < n → get_or (each f n i) k 0 ≡ f (i + k)
unfolding each
each_at f zero i k h = absurd (not-suc-le-zero h)
each_at f (suc n) i zero h = ap f (sym (add-zero i))
each_at f (suc n) i (suc k) h = each_at f n (suc i) k (le_of_suc-le-suc h) ∙ ap f (suc-add i k ∙ sym (add-suc i k))

pub length_each : (f : ℕ → ℕ) (n i : ℕ) → length (each f n i) ≡ n
unfolding each
length_each f zero i = refl
length_each f (suc n) i = ap suc (length_each f n (suc i))
