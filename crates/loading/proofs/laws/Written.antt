-- A heat table written as the papers' numbers loads as itself: document 02's Job 10. Assumes nothing.
use Rattle.std.specs.Prelude.{◌≡◌, refl, ◌⊎◌, List, [], ◌∷◌, ◌++◌, ℕ, zero, suc, ◌+◌, ◌-◌, ◌*◌, ◌^◌, ◌≤◌, ◌<◌, length, get_or}
use Rattle.std.specs.Int.{w64, to_be_bytes}
use Rattle.std.proofs.Common.{sym, ◌∙◌, inl, inr, arith, length-append}
use Rattle.std.proofs.lemmas.Bool.{cases_lt}
use Rattle.std.proofs.lemmas.Nat.{from_be_bytes-to_be_bytes_8}
use Rattle.std.proofs.lemmas.List.{ext_get_or, get_or-append-add, get_or_past}
use Rattle.heats.specs.HeatTables.{IsHeatTable}
use Rattle.book.specs.Outcomes.{Answer}
use Rattle.loading.specs.Loading.{number_at, entries, load}
use Rattle.loading.proofs.laws.Loaded.{length_entries, entry_at, taken}

-- "8-byte numbers, most significant byte first": those of a list
pub written : List ℕ → List ℕ
written [] = []
written (x ∷ l) = to_be_bytes w64 x ++ written l

module _ (x : ℕ) (rest : List ℕ) where
  number_here : x < 2 ^ 64 → number_at (to_be_bytes w64 x ++ rest) 0 ≡ x
  unfolding number_at
  number_here h = omega (arith, from_be_bytes-to_be_bytes_8 x h)

  byte_later : (k j : ℕ) → j ≡ 8 + k → get_or (to_be_bytes w64 x ++ rest) j 0 ≡ get_or rest k 0
  byte_later k j e = rw e (get_or-append-add (to_be_bytes w64 x) rest k 0)

  number_later : (at n : ℕ) → n ≡ 8 + at → number_at (to_be_bytes w64 x ++ rest) n ≡ number_at rest at
  unfolding number_at
  number_later at n e =
      omega (
        arith,
        byte_later at n (omega arith),
        byte_later (at + 1) (n + 1) (omega arith),
        byte_later (at + 2) (n + 2) (omega arith),
        byte_later (at + 3) (n + 3) (omega arith),
        byte_later (at + 4) (n + 4) (omega arith),
        byte_later (at + 5) (n + 5) (omega arith),
        byte_later (at + 6) (n + 6) (omega arith),
        byte_later (at + 7) (n + 7) (omega arith),
      )

length_written : (l : List ℕ) → length (written l) ≡ 8 * length l
unfolding written
length_written [] = refl
length_written (x ∷ l) = omega (arith, length-append (to_be_bytes w64 x) (written l), length_written l)

number_written : (l : List ℕ) → ((k : ℕ) → get_or l k 0 < 2 ^ 64) → (k n : ℕ) → k < length l → n ≡ 8 * k → number_at (written l) n ≡ get_or l k 0
unfolding written
number_written [] h k n u e = absurd (omega arith)
number_written (x ∷ l) h zero n u e = rw e (number_here x (written l) (h 0))
number_written (x ∷ l) h (suc k) n u e = number_later x (written l) (8 * k) n (omega arith) ∙ number_written l (λ i. h (suc i)) k (8 * k) (omega arith) refl

-- "the count 1,701, then the entries": every heat table, so written, is taken as it is
module _ (l : List ℕ) (t : IsHeatTable l) where
  fits : (k : ℕ) → get_or (1_701 ∷ l) k 0 < 2 ^ 64
  fits zero = omega arith
  fits (suc k) = go (cases_lt k 1_701)
    where
      go : (k < 1_701) ⊎ (1_701 ≤ k) → get_or l k 0 < 2 ^ 64
      go (inl u) = let e : 4_300 + k - 4_300 ≡ k = omega arith in omega (arith, rw e at (t.few (4_300 + k) (omega arith) (omega arith)))
      go (inr u) = omega (arith, get_or_past l k 0 (omega (arith, t.size)))

  number_is : (k n : ℕ) → k < 1_702 → n ≡ 8 * k → number_at (written (1_701 ∷ l)) n ≡ get_or (1_701 ∷ l) k 0
  number_is k n u e = number_written (1_701 ∷ l) fits k n (omega (arith, t.size)) e

  entries_are : entries (written (1_701 ∷ l)) ≡ l
  entries_are =
      let s : List ℕ = written (1_701 ∷ l) in
      ext_get_or 0 (entries s) l (length_entries s ∙ sym t.size)
      (λ k h. let u : k < 1_701 = omega (arith, length_entries s) in entry_at s k u ∙ number_is (suc k) (8 * k + 8) (omega arith) (omega arith))

  pub again : (former : List ℕ) → load (written (1_701 ∷ l)) former ≡ record { answer = Answer.Accepted 0; heats = l }
  again former =
      rw entries_are at
      (taken (written (1_701 ∷ l)) former (length_written (1_701 ∷ l) ∙ omega (arith, t.size)) (number_is 0 0 (omega arith) (omega arith)) (rw entries_are t))
