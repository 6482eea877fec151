-- A text at the front of a lent buffer, and the page there. Assumes nothing.
use Prim.Native.Nat.{ℕ, ◌*◌, ◌≤◌, ◌<◌}
use native.Mathlib.Omega.{arith}
use mathlib.Core.Path.{◌≡◌, refl, sym, ◌∙◌}
use mathlib.Core.List.{List}
use borrow.Author.Tests.{lt-ltb, le-ltb}
use lib.ListN.{length, take-append-drop}
use Rattle.book.specs.declared.tables.Book.{Book}
use Rattle.book.specs.Outcomes.{Answer}
use Rattle.book.specs.Lists.{Reached}
use Rattle.text.specs.Print.{Put}
use Rattle.text.specs.Page.{page, line_count, lent, page_answer}
use Rattle.text.proofs.Columns.{page_length}

-- who wrote a text from the start has written it into the lent buffer
pub lent_written : {before after : List ℕ} {j : ℕ} (t : List ℕ) → length t ≤ length before → Put before after 0 j t → after ≡ lent t before
unfolding lent
lent_written {before} {after} {j} t h p =
    let n : length t ≡ j = omega (arith, p.next) in
    rw (le-ltb (length before) (length t) h) (sym (take-append-drop j after) ∙ rw (p.text, p.kept, n) refl)

pub lent_short : {before : List ℕ} (t : List ℕ) → length before < length t → before ≡ lent t before
unfolding lent
lent_short {before} t h = rw (lt-ltb (length before) (length t) h) refl

-- a page of n bytes
module _ {b : Book} (r : Reached b) {before : List ℕ} {n : ℕ} (e : n ≡ 41 * line_count b) where
  pub page_short : length before < n → (Answer.Refused 27 ≡ page_answer b before) × (before ≡ lent (page b) before)
  unfolding page_answer
  page_short h =
      let g : length before < length (page b) = omega (arith, page_length r) in
      (rw (lt-ltb (length before) (length (page b)) g) refl, lent_short (page b) g)

  pub page_written : {after : List ℕ} {j : ℕ} → n ≤ length before → Put before after 0 j (page b) → (Answer.Accepted n ≡ page_answer b before) × (after ≡ lent (page b) before)
  unfolding page_answer
  page_written h p =
      let g : length (page b) ≤ length before = omega (arith, page_length r) in
      (rw (le-ltb (length before) (length (page b)) g, page_length r, e) refl, lent_written (page b) g p)
