-- Masks that end an array of five, behind zeros: the array is what the list says. Assumes nothing.
use Rattle.std.specs.Prelude.{◌≡◌, List, ◌++◌, ℕ, ◌-◌, ◌≤◌, length, take, drop, replicate}
use Rattle.std.proofs.Common.{arith, length-drop}
use Rattle.std.proofs.lemmas.List.{take-append-drop}

pub count_back : (cells : List ℕ) (count : ℕ) → length cells ≡ 5 → count ≤ 5 → length (drop (5 - count) cells) ≡ count
count_back cells count n h = omega (arith, length-drop (5 - count) cells)

pub cells_back : (cells : List ℕ) (count : ℕ) → length cells ≡ 5 → count ≤ 5 → take (5 - count) cells ≡ replicate (5 - count) 0 → replicate (5 - length (drop (5 - count) cells)) 0 ++ drop (5 - count) cells ≡ cells
cells_back cells count n h e = rw (count_back cells count n h, ← e) (take-append-drop (5 - count) cells)
