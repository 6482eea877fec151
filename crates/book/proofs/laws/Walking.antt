-- The walk over two lists: each of its pairs is a proper one, and it makes fewer matches than the lists have members, or none; what every such
-- pair keeps, it keeps, until one list ends. By induction on the turns. Assumes nothing.
use Rattle.std.specs.Prelude.{◌≡◌, refl, Bool, eqb}
use Rattle.std.proofs.Common.{◌∙◌}
use mathlib.Core.List.{List, [], ◌∷◌, map}
use Prim.Native.Nat.{ℕ, zero, suc, ◌+◌, ◌-◌, ◌≤◌, ◌<◌, min}
use native.Mathlib.Omega.{arith}
use Rattle.std.proofs.Math.ListN.{length}
use borrow.Author.Tests.{eqb-true, eqb-false}
use Rattle.book.specs.Types.{Book, Listed}
use Rattle.book.specs.Counting.{All}
use Rattle.book.specs.Rows.{long_units, short_units}
use Rattle.book.specs.Tables.{account_at}
use Rattle.book.specs.Pairing.{pair}
use Rattle.book.specs.Closing.{use_up, walk, pair_all}
use Rattle.book.proofs.laws.Counting.{by_pick, only, only_here, only_most, only_split}
use Rattle.book.proofs.laws.Sound.{Core}
use Rattle.book.proofs.laws.Pairing.{Pairable, pairable, Paired, pair_core, paired_accounts, paired_matches, paired_long, paired_short}

-- ---- all members of a list

pub all_map : {A : Type 0} (P Q : A → Type 0) (l : List A) → ((x : A) → P x → Q x) → All P l → All Q l
all_map P Q [] f h = tt
all_map P Q (x ∷ l) f h = (f x h.0, all_map P Q l f h.1)

pub all_of : {A B : Type 0} (P : B → Type 0) (f : A → B) (l : List A) → All (λ x. P (f x)) l → All P (map f l)
all_of P f [] h = tt
all_of P f (x ∷ l) h = (h.0, all_of P f l h.1)

-- ---- what is left to an account in a list

-- f of each member of account k, added up
unfoldable pub sum_of : (Listed → ℕ) → ℕ → List Listed → ℕ
sum_of f k [] = 0
sum_of f k (x ∷ xs) = only x.account (f x) k + sum_of f k xs

abbrev pub left_of : ℕ → List Listed → ℕ
left_of k xs = sum_of (λ x. x.left) k xs

module _ (u : ℕ) (x : Listed) (xs : List Listed) where
  -- the front has u units less, and nobody else
  pub use_up_left : (k : ℕ) → u ≤ x.left → left_of k (use_up u x xs) + only x.account u k ≡ left_of k (x ∷ xs)
  unfolding sum_of
  use_up_left k h =
      let s = only_split x.account k u x.left h in
      by_pick (λ (l : List Listed). left_of k l + only x.account u k ≡ only x.account x.left k + left_of k xs) (eqb (x.left - u) 0)
      (λ e. let z : x.left - u ≡ 0 = eqb-true _ _ e in omega (arith, only_most x.account (x.left - u) k))
      (λ e. omega arith)

  pub use_up_all : (Q : Listed → Type 0) → (0 < x.left - u → Q (record { account = x.account; left = x.left - u; day = x.day })) → All Q xs → All Q (use_up u x xs)
  use_up_all Q h g = by_pick (All Q) (eqb (x.left - u) 0) (λ e. g) (λ e. let z = eqb-false (x.left - u) 0 e in (h (omega arith), g))

  -- whoever is used up is dropped
  pub use_up_length : length (use_up u x xs) ≤ length xs + min 1 (x.left - u)
  use_up_length = by_pick (λ (l : List Listed). length l ≤ length xs + min 1 (x.left - u)) (eqb (x.left - u) 0) (λ e. omega arith) (λ e. let z = eqb-false (x.left - u) 0 e in omega arith)

pub front_left : (x : Listed) (xs : List Listed) → x.left ≤ left_of x.account (x ∷ xs)
unfolding sum_of
front_left x xs = omega (arith, only_here x.account x.left)

-- ---- lists that a book answers for

-- one of n accounts, with something left to it
pub record Member (n : ℕ) (x : Listed) : Type 0 where
  pub there : x.account < n
  pub some : 0 < x.left

-- buyers are long, sellers short, by all that is left to them
pub record Listing (b : Book) (xs ys : List Listed) : Type 0 where
  pub buyers : All (Member b.account_count) xs
  pub sellers : All (Member b.account_count) ys
  pub long : (k : ℕ) → k < b.account_count → left_of k xs ≤ long_units (account_at b k)
  pub short : (k : ℕ) → k < b.account_count → left_of k ys ≤ short_units (account_at b k)

front_pairable : {b : Book} (x y : Listed) (xs ys : List Listed) → b.match_count < 256 → Listing b (x ∷ xs) (y ∷ ys) → Pairable b x.account y.account (min x.left y.left)
front_pairable {b} x y xs ys m l =
    let p = l.buyers.0 in
    let q = l.sellers.0 in
    pairable b x.account y.account (min x.left y.left) p.there q.there (omega (arith, p.some, q.some))
    (omega (arith, front_left x xs, l.long x.account p.there)) (omega (arith, front_left y ys, l.short y.account q.there)) m

member_off : {n : ℕ} (u : ℕ) (x : Listed) (xs : List Listed) → All (Member n) (x ∷ xs) → All (Member n) (use_up u x xs)
member_off {n} u x xs h = use_up_all u x xs (Member n) (λ g. record { there = h.0.there; some = g }) h.1

-- ---- the walk

-- a book of n accounts, with matches between two bounds, of which P holds
pub record Passed (P : Book → Type 0) (n low high : ℕ) (e : Book) : Type 0 where
  pub core : Core e
  pub kept : P e
  pub accounts : e.account_count ≡ n
  pub low_count : low ≤ e.match_count
  pub high_count : e.match_count ≤ high

module _ (c : Bool) (P : List Listed → List Listed → Book → Type 0) (Q : Book → Type 0)
    (keep : (x y : Listed) (xs ys : List Listed) (b : Book) → Core b → Pairable b x.account y.account (min x.left y.left) → P (x ∷ xs) (y ∷ ys) b
    → P (use_up (min x.left y.left) x xs) (use_up (min x.left y.left) y ys) (pair b c 1 x.account y.account (min x.left y.left)))
    (no_buyers : (ys : List Listed) (b : Book) → Core b → P [] ys b → Q b) (no_sellers : (xs : List Listed) (b : Book) → Core b → P xs [] b → Q b) where
  pub walk_keeps : (n : ℕ) (xs ys : List Listed) (b : Book) → length xs + length ys ≤ n → b.match_count + (length xs + length ys - 1) ≤ 256 → Core b → Listing b xs ys → P xs ys b
      → Passed Q b.account_count b.match_count (b.match_count + (length xs + length ys - 1)) (pair_all c (walk n xs ys) b)
  unfolding walk pair_all
  walk_keeps zero [] ys b f m r l h = record { core = r; kept = no_buyers ys b r h; accounts = refl; low_count = omega arith; high_count = omega arith }
  walk_keeps zero (x ∷ xs) ys b f m r l h = absurd (omega arith)
  walk_keeps (suc n) [] ys b f m r l h = record { core = r; kept = no_buyers ys b r h; accounts = refl; low_count = omega arith; high_count = omega arith }
  walk_keeps (suc n) (x ∷ xs) [] b f m r l h = record { core = r; kept = no_sellers (x ∷ xs) b r h; accounts = refl; low_count = omega arith; high_count = omega arith }
  walk_keeps (suc n) (x ∷ xs) (y ∷ ys) b f m r l h =
      let u = min x.left y.left in
      let i = x.account in
      let j = y.account in
      let p = front_pairable x y xs ys (omega arith) l in
      let e = pair b c 1 i j u in
      let q : Paired b 1 i j u e = pair_core b c 1 i j u (omega arith) p r in
      let a = paired_accounts q in
      let d = paired_matches q in
      let fewer : length (use_up u x xs) + length (use_up u y ys) ≤ length xs + length ys + 1 = omega (arith, use_up_length u x xs, use_up_length u y ys) in
      let ih = walk_keeps n (use_up u x xs) (use_up u y ys) e (omega arith) (omega arith) q.core
      (record {
        buyers = rw a (member_off u x xs l.buyers);
        sellers = rw a (member_off u y ys l.sellers);
        long = λ k g. omega (arith, paired_long p q r k, use_up_left u x xs k (omega arith), l.long k (omega arith));
        short = λ k g. omega (arith, paired_short p q r k, use_up_left u y ys k (omega arith), l.short k (omega arith));
      })
      (keep x y xs ys b r p h) in
      record { core = ih.core; kept = ih.kept; accounts = ih.accounts ∙ a; low_count = omega (arith, ih.low_count); high_count = omega (arith, ih.high_count) }
