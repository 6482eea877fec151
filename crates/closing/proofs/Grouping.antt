-- The lists of a plan made by one loop over the accounts that remain: their units, and those of a group that are on a side. Assumes nothing.
use Rattle.std.specs.Prelude.{◌≡◌, refl, Bool, true, false, ◌&&◌, List, [], ◌∷◌, ◌++◌, map, ℕ, zero, suc, ◌+◌, ◌/◌, ◌%◌, ◌≤◌, ◌<◌, eqb, length, take, get_or}
use Rattle.std.specs.List.{filter}
use Rattle.std.proofs.Common.{sym, ap, ◌∙◌, arith, add-one, append-nil, length-append}
use Rattle.std.proofs.lemmas.List.{map-append}
use Rattle.std.proofs.lemmas.List.Elements.{filter-append}
use Rattle.std.proofs.lemmas.Nat.Bits.{bit_at_lowest, bit_at-suc}
use lib.Seq.{take-suc}
use Rattle.book.specs.declared.accounts.Side.{Side}
use Rattle.book.specs.declared.tables.Book.{Book}
use Rattle.book.specs.declared.tables.Listed.{Listed}
use Rattle.book.specs.Counting.{list_if}
use Rattle.book.specs.Masks.{members, holds}
use Rattle.book.specs.Closing.{with_units}
use Rattle.closing.specs.Asked.{is_on_side}

-- ---- an account more

-- each of the first accounts of a list is mapped
pub record MappedTo {A B : Type 0} (f : A → B) (xs : List A) (i : ℕ) (l : List B) : Type 0 where
  pub same : l ≡ map f (take i xs)

pub one_mapped : {A B : Type 0} {f : A → B} {xs : List A} {i : ℕ} {l r : List B} {y : B} (d : A) → MappedTo f xs i l → i < length xs → r ≡ l ++ y ∷ [] → y ≡ f (get_or xs i d) → MappedTo f xs (i + 1) r
one_mapped {f = f} {xs = xs} {i = i} d s h q e = record { same = rw (q, e, s.same, add-one, take-suc xs i d h) (sym (map-append f (take i xs) (get_or xs i d ∷ []))) }

-- the members of a mask among the first accounts, with one more
pub members_more : {A : Type 0} (xs : List A) (i m : ℕ) (d : A) → i < length xs → members (take (suc i) xs) m ≡ members (take i xs) m ++ list_if (holds m i) (get_or xs i d) []
unfolding members
members_more [] i m d h = absurd (omega arith)
members_more (x ∷ xs) zero m d h = rw bit_at_lowest (go (eqb (m % 2) 1))
  where
    go : (t : Bool) → list_if t x [] ≡ list_if t x []
    go t = refl
members_more (x ∷ xs) (suc i) m d h = rw bit_at-suc (go (eqb (m % 2) 1) (members_more xs i (m / 2) d (omega arith)))
  where
    go : (t : Bool) {l : List _} → l ≡ members (take i xs) (m / 2) ++ list_if (holds (m / 2) i) (get_or xs i d) [] → list_if t x l ≡ list_if t x (members (take i xs) (m / 2)) ++ list_if (holds (m / 2) i) (get_or xs i d) []
    go true e = ap (x ∷◌) e
    go false e = e

-- the members of a mask that are on a side, among the first accounts of a list
pub record GroupedTo (b : Book) (s : Side) (ks : List ℕ) (m i : ℕ) (l : List Listed) : Type 0 where
  pub few : length l ≤ i
  pub same : l ≡ map (with_units b) (filter (is_on_side b s) (members (take i ks) m))

pub none_grouped : {b : Book} {s : Side} {ks : List ℕ} {m : ℕ} {l : List Listed} → l ≡ [] → GroupedTo b s ks m 0 l
unfolding members
none_grouped e = record { few = rw e (omega arith); same = rw e refl }

module _ {b : Book} {s : Side} {ks : List ℕ} {m i : ℕ} {l : List Listed} (g : GroupedTo b s ks m i l) (h : i < length ks) where
  abbrev here : ℕ
  here = get_or ks i 0

  -- the list with one account more, where it is a member and on the side
  more : map (with_units b) (filter (is_on_side b s) (members (take (i + 1) ks) m)) ≡ l ++ map (with_units b) (filter (is_on_side b s) (list_if (holds m i) here []))
  more =
      let f = members (take i ks) m in
      let r = list_if (holds m i) here [] in
      rw (add-one, members_more ks i m 0 h, filter-append (is_on_side b s) f r, map-append (with_units b) (filter (is_on_side b s) f) (filter (is_on_side b s) r), g.same) refl

  pub one_grouped : {r : List Listed} → r ≡ l ++ with_units b here ∷ [] → holds m i ≡ true → is_on_side b s here ≡ true → GroupedTo b s ks m (i + 1) r
  one_grouped {r} q e o = record {
    few = rw q (simp length-append (omega (arith, g.few)));
    same = q ∙ sym (more ∙ rw (e, o) refl);
  }

  pub not_grouped : holds m i && is_on_side b s here ≡ false → GroupedTo b s ks m (i + 1) l
  not_grouped e = record { few = omega (arith, g.few); same = sym (more ∙ none (holds m i) (is_on_side b s here) refl e) }
    where
      none : (x y : Bool) → is_on_side b s here ≡ y → x && y ≡ false → l ++ map (with_units b) (filter (is_on_side b s) (list_if x here [])) ≡ l
      none true y o q = rw (o, q) (append-nil l)
      none false y o q = append-nil l
