-- The masks that are chosen: a balanced mask has two members or more, and all are masks of these accounts. Assumes nothing.
use Rattle.std.specs.Prelude.{◌≡◌, true, List, ℕ, ◌^◌, ◌≤◌, ◌<◌, length, get_or, count_ones}
use Rattle.std.proofs.Common.{sym, ◌∙◌, arith, eqb-true}
use Rattle.std.specs.Int.Count.{count_trailing_zeros}
use Rattle.std.proofs.lemmas.Nat.{zero_from_ones}
use Rattle.book.specs.Counting.{All}
use Rattle.book.specs.Masks.{members, added, is_balanced, balanced_masks, choose, united}
use Rattle.book.proofs.laws.Counting.{by_eq}
use Rattle.book.proofs.laws.Listing.{those_all}
use Rattle.book.proofs.laws.Masks.{united_few}
use Rattle.book.proofs.laws.Choosing.{choose_all}
use Rattle.masks.specs.Asked.{Sided, IsGroup}
use Rattle.masks.proofs.Lowest.{without, members_none, members_lowest, lowest_there, ones_without}

-- the units of a single account
added_lone : (us : List ℕ) (m : ℕ) → length us ≤ 16 → 0 < m → m < 2 ^ length us → count_ones m ≡ 1 → added (members us m) ≡ get_or us (count_trailing_zeros 16 m) 0
unfolding added
added_lone us m f p h q =
    let z : without m ≡ 0 = zero_from_ones (without m) (omega (arith, ones_without m p)) in
    rw (members_lowest 0 us 16 m f p h, z, members_none us) (omega arith)

-- of n accounts
module _ (longs shorts : List ℕ) (tests : ℕ) (f : length longs ≤ 10) (l : length shorts ≡ length longs) (g : tests < 2 ^ length longs) where
  pub balanced_groups : Sided longs shorts → All (IsGroup (length longs)) (balanced_masks longs shorts tests)
  unfolding balanced_masks
  balanced_groups s = those_all (IsGroup (length longs)) (is_balanced longs shorts) tests 1 (λ m x y e. record { few = omega arith; two = two m x (omega arith) e })
    where
      two : (m : ℕ) → 0 < m → m < 2 ^ length longs → is_balanced longs shorts m ≡ true → 2 ≤ count_ones m
      two m p h e =
          by_eq (count_ones m) 1
          (λ q. absurd (s (count_trailing_zeros 16 m) (lowest_there (length longs) 16 m (omega arith) p h)
          (sym (added_lone longs m (omega arith) p h q) ∙ eqb-true _ _ e ∙ added_lone shorts m (omega arith) p (rw l h) q)))
          (λ d. omega (arith, ones_without m p))

  pub chosen_there : united (choose (balanced_masks longs shorts tests) 0) < 2 ^ length longs
  unfolding balanced_masks
  chosen_there =
      united_few (length longs) (choose (balanced_masks longs shorts tests) 0)
      (choose_all (λ m. m < 2 ^ length longs) (balanced_masks longs shorts tests) 0 (those_all (λ m. m < 2 ^ length longs) (is_balanced longs shorts) tests 1 (λ m x y e. omega arith)))
