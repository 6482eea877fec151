-- Lists of accounts made by one loop over the accounts: what is listed so far, and then those to come, is the whole. Assumes nothing.
use Rattle.std.specs.Prelude.{◌≡◌, refl, Bool, ◌&&◌, ltb, true, false, List, [], ◌∷◌, ◌++◌, map, ℕ, zero, suc, ◌+◌, ◌-◌, ◌≤◌, ◌<◌, length, take, get_or}
use Rattle.std.proofs.Common.{sym, ap, ap₂, ◌∙◌, arith, append_assoc, append-nil, length-append}
use Rattle.std.proofs.lemmas.List.{get_or-take}
use Rattle.book.specs.declared.accounts.Account.{Account}
use Rattle.book.specs.declared.accounts.Lot.{Lot}
use Rattle.book.specs.declared.accounts.Side.{Side}
use Rattle.book.specs.declared.tables.Book.{Book}
use Rattle.book.specs.declared.tables.Listed.{Listed}
use Rattle.book.specs.Rows.{blank_account, is_on}
use Rattle.book.specs.Tables.{account_at}
use Rattle.book.specs.Closing.{with_units, is_seller, is_overseas_buyer, bonded_offer, bonded_sellers, overseas_lots, buyers, sellers}
use Rattle.book.specs.Joining.{join_lots}
use Rattle.book.proofs.laws.Walking.{all_of}
use Rattle.book.proofs.laws.Listing.{those_all, lots_all}
use Rattle.book.proofs.laws.Joining.{joins_all}
use Rattle.book.specs.Counting.{All, list_if, those}
use Rattle.reached.specs.Loops.{more_left, none_left}
use Rattle.closing.specs.Asked.{There, on_side}

-- one of the first n rows of a table
pub row_is : {A : Type 0} (n k : ℕ) (l r : List A) (d : A) → r ≡ take n l → k < n → get_or r k d ≡ get_or l k d
row_is n k l r d e h = rw (e, get_or-take n l k d h)

-- of the n numbers at which p holds, with f of each, those below k are listed
pub record ListedTo {A : Type 0} (f : ℕ → A) (p : ℕ → Bool) (n k : ℕ) (l : List A) : Type 0 where
  pub within : k ≤ n
  pub few : length l ≤ k
  pub same : l ++ map f (those (n - k) k p) ≡ map f (those n 0 p)

module _ {A : Type 0} {f : ℕ → A} {p : ℕ → Bool} {n k : ℕ} {l : List A} (s : ListedTo f p n k l) where
  pub one_listed : {x : A} {r : List A} → k < n → r ≡ l ++ x ∷ [] → p k ≡ true → f k ≡ x → ListedTo f p n (k + 1) r
  unfolding those
  one_listed {x} {r} h q e v = record {
    within = omega arith;
    few = rw q (simp length-append (omega (arith, s.few)));
    same = rw (q, ← v, append_assoc) (rw (more_left n k h, e) at s.same);
  }

  pub not_listed : k < n → p k ≡ false → ListedTo f p n (k + 1) l
  unfolding those
  not_listed h e = record { within = omega arith; few = omega (arith, s.few); same = rw (more_left n k h, e) at s.same }

  pub all_listed : n ≤ k → l ≡ map f (those n 0 p)
  unfolding those
  all_listed h = sym (append-nil l) ∙ (rw (none_left n k h) at s.same)

-- ---- who is listed

pub side_there : (l : List Account) (s : Side) → length l ≤ 32 → All There (on_side l s)
unfolding on_side
side_there l s h = all_of There _ _ (those_all (λ j. j < 32) (λ k. is_on s (get_or l k blank_account).side) (length l) 0 (λ j x y q. omega arith))

pub sellers_there : (b : Book) → b.account_count ≤ 32 → All There (bonded_sellers b)
unfolding bonded_sellers
sellers_there b h = all_of There (λ k. record { account = k; left = bonded_offer b k; day = 0 }) _ (those_all (λ j. j < 32) (λ k. is_seller b k && ltb 0 (bonded_offer b k)) b.account_count 0 (λ j x y q. omega arith))

pub lots_there : (b : Book) → b.account_count ≤ 32 → All There (join_lots (overseas_lots b))
unfolding overseas_lots
lots_there b h =
    joins_all There (λ x y g q. g) (overseas_lots b)
    (lots_all There b (those b.account_count 0 (is_overseas_buyer b)) (those_all (λ j. (x : Lot) → 0 < x.units → j < 32) (is_overseas_buyer b) b.account_count 0 (λ j x y e z g. omega arith)))

-- lists of the same accounts, listed alike
listed_same : (f g : ℕ → Listed) (p q : ℕ → Bool) (n i : ℕ) → ((k : ℕ) → i ≤ k → k < i + n → (p k ≡ q k) × (f k ≡ g k)) → map f (those n i p) ≡ map g (those n i q)
unfolding those
listed_same f g p q zero i h = refl
listed_same f g p q (suc n) i h = rw (h i (omega arith) (omega arith)).0 (go (q i) (listed_same f g p q n (i + 1) (λ k x y. h k (omega arith) (omega arith))))
  where
    go : (t : Bool) → map f (those n (i + 1) p) ≡ map g (those n (i + 1) q) → map f (list_if t i (those n (i + 1) p)) ≡ map g (list_if t i (those n (i + 1) q))
    go true r = ap₂ ◌∷◌ (h i (omega arith) (omega arith)).1 r
    go false r = r

-- buyers and sellers, by the accounts of a book
module _ (b : Book) (n : ℕ) (l : List Account) (c : b.account_count ≡ n) (e : l ≡ take n b.accounts) (h : length l ≡ n) where
  on_book : (s : Side) → on_side l s ≡ map (with_units b) (those b.account_count 0 (λ k. is_on s (account_at b k).side))
  unfolding on_side
  on_book s = rw (h, c) (listed_same _ _ _ _ n 0 (λ k x y. let a = row_is n k b.accounts l blank_account e (omega arith) in (ap (λ (z : Account). is_on s z.side) a, ap (λ (z : Account). record { account = k; left = z.units; day = 0 }) a)))

  pub on_long : on_side l Side.Long ≡ buyers b
  unfolding buyers
  on_long = on_book Side.Long

  pub on_short : on_side l Side.Short ≡ sellers b
  unfolding sellers
  on_short = on_book Side.Short
