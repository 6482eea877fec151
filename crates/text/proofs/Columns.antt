-- The law of the page: of every reached book each line has just 40 characters and a newline, since no number outgrows its field. Assumes nothing.
use Prim.Native.Nat.{ℕ, zero, suc, ◌+◌, ◌-◌, ◌*◌, ◌^◌, ◌/◌, ◌%◌, ◌≤◌, ◌<◌}
use native.Mathlib.Nat.{zero-add, suc-add}
use native.Mathlib.Omega.{arith}
use mathlib.Core.Path.{◌≡◌, refl, sym, subst}
use mathlib.Core.Bool.{Bool, true, false}
use mathlib.Core.List.{List, [], ◌∷◌, ◌++◌, append_assoc, append-nil}
use borrow.Author.Tests.{le-leb}
use lib.Dec.{ltb, leb}
use lib.IntN.{ℤ, pos, negsuc, nat_abs}
use lib.ListN.{length, length-append, length-replicate}
use Rattle.coal.specs.Choice.{pick}
use Rattle.book.specs.declared.accounts.Side.{Side}
use Rattle.book.specs.declared.receipts.ReceiptState.{ReceiptState}
use Rattle.book.specs.declared.accounts.Account.{Account}
use Rattle.book.specs.declared.receipts.Receipt.{Receipt}
use Rattle.book.specs.declared.matches.Stage.{Stage}
use Rattle.book.specs.declared.matches.Match.{Match}
use Rattle.book.specs.declared.tables.Book.{Book}
use Rattle.book.specs.Codes.{stage_number}
use Rattle.book.specs.Tables.{account_at, receipt_at, match_at}
use Rattle.book.specs.Lists.{Reached}
use Rattle.book.proofs.laws.Counting.{by_pick}
use Rattle.book.proofs.laws.Reaching.{sound}
use Rattle.text.specs.Text.{bytes}
use Rattle.text.specs.Print.{digits, last_digits, with_sign, spaced}
use Rattle.text.specs.Ledger.{heading, each}
use Rattle.text.specs.Page.{spaces, right, padded, yuan, side_word, class_word, state_word, line, account_columns, receipt_columns, match_columns, count_columns, account_entry, receipt_entry, match_entry, page, printable, Characters, Lined, none, more, line_count}
use Rattle.text.proofs.Printing.{digits_64, digits_short}

-- ---- lengths

-- a number below 10 ^ w has at most w digits
pub digits_within : (w n : ℕ) → 0 < w → n < 10 ^ w → length (digits n) ≤ w
digits_within zero n g h = absurd (omega arith)
digits_within (suc w) n g h = digits_short w n h

module _ (w : ℕ) (t : List ℕ) (h : length t ≤ w) where
  -- a field has its width, where the text does not outgrow it
  right_length : length (right w t) ≡ w
  unfolding right
  right_length = simp (length-append, length-replicate) (omega arith)

  padded_length : length (padded w t) ≡ w
  unfolding padded
  padded_length = simp (length-append, length-replicate) (omega arith)

-- ---- characters

clean_cons : (x : ℕ) (t : List ℕ) → 32 ≤ x → x ≤ 126 → printable t ≡ true → printable (x ∷ t) ≡ true
unfolding printable
clean_cons x t f g h = rw (le-leb 32 x f, le-leb x 126 g) h

clean_append : (s t : List ℕ) → printable s ≡ true → printable t ≡ true → printable (s ++ t) ≡ true
unfolding printable
clean_append [] t h g = g
clean_append (x ∷ s) t h g = go (leb 32 x) (leb x 126) h (λ e. clean_append s t e g)
  where
    go : (c d : Bool) → pick c (pick d (printable s) false) false ≡ true → (printable s ≡ true → printable (s ++ t) ≡ true) → pick c (pick d (printable (s ++ t)) false) false ≡ true
    go true true e next = next e
    go true false e next = e
    go false d e next = e

clean_spaces : (n : ℕ) → printable (spaces n) ≡ true
unfolding printable
clean_spaces zero = refl
clean_spaces (suc n) = clean_spaces n

clean_digit : (n : ℕ) (t : List ℕ) → printable t ≡ true → printable ((48 + n % 10) ∷ t) ≡ true
clean_digit n t h = clean_cons (48 + n % 10) t (omega arith) (omega arith) h

clean_last : (k n : ℕ) → printable (last_digits k n) ≡ true
unfolding last_digits printable
clean_last zero n = clean_digit n [] refl
clean_last (suc k) n =
    clean_append (pick (ltb n 10) [] (last_digits k (n / 10))) ((48 + n % 10) ∷ [])
    (by_pick (λ (t : List ℕ). printable t ≡ true) (ltb n 10) (λ _. refl) (λ _. clean_last k (n / 10)))
    (clean_digit n [] refl)

clean_digits : (n : ℕ) → printable (digits n) ≡ true
unfolding digits
clean_digits n = clean_last n n

-- ---- fields

-- two fields side by side
both : {m n : ℕ} {s t : List ℕ} → Characters m s → Characters n t → Characters (m + n) (s ++ t)
both {s = s} {t = t} p q = record { count = simp length-append (omega (arith, p.count, q.count)); clean = clean_append s t p.clean q.clean }

aligned : (w : ℕ) (t : List ℕ) → length t ≤ w → printable t ≡ true → Characters w (right w t)
unfolding right
aligned w t h g = record { count = right_length w t h; clean = clean_append (spaces (w - length t)) t (clean_spaces (w - length t)) g }

number : (w n : ℕ) → 0 < w → n < 10 ^ w → Characters w (right w (digits n))
number w n g h = aligned w (digits n) (digits_within w n g h) (clean_digits n)

yuan_few : (x : ℕ) → x < 100_000_000_000_000_000_000 → length (yuan x) ≤ 21
unfolding yuan
yuan_few x h = simp length-append (omega (arith, digits_within 18 (x / 100) (omega arith) (omega arith)))

clean_yuan : (x : ℕ) → printable (yuan x) ≡ true
unfolding yuan printable
clean_yuan x =
    let cents = clean_digit (x / 10) ((48 + x % 10) ∷ []) (clean_digit x [] refl) in
    clean_append (digits (x / 100)) (46 ∷ (48 + x / 10 % 10) ∷ (48 + x % 10) ∷ []) (clean_digits (x / 100)) cents

cash : (z : ℤ) → nat_abs z < 100_000_000_000_000_000_000 → Characters 22 (right 22 (with_sign yuan z))
cash (pos n) h = aligned 22 (yuan n) (omega (arith, yuan_few n h)) (clean_yuan n)
cash (negsuc n) h = aligned 22 (45 ∷ yuan (suc n)) (omega (arith, yuan_few (suc n) h)) (clean_cons 45 _ (omega arith) (omega arith) (clean_yuan (suc n)))

side : (s : Side) → Characters 7 (right 7 (side_word s))
unfolding printable
side Side.Flat = aligned 7 (bytes "none") (omega arith) refl
side Side.Long = aligned 7 (bytes "long") (omega arith) refl
side Side.Short = aligned 7 (bytes "short") (omega arith) refl

class : (c : Bool) → Characters 12 (right 12 (class_word c))
unfolding printable
class false = aligned 12 (bytes "ordinary") (omega arith) refl
class true = aligned 12 (bytes "bonded") (omega arith) refl

state : (s : ReceiptState) → Characters 20 (right 20 (state_word s))
unfolding printable
state ReceiptState.Free = aligned 20 (bytes "free") (omega arith) refl
state (ReceiptState.Frozen j) = aligned 20 (bytes "frozen") (omega arith) refl
state ReceiptState.Struck = aligned 20 (bytes "struck") (omega arith) refl

-- ---- lines

-- "these as in the ledger": the ledger's line of a count, or of the fund, is the text that the page pads, and a newline
pub as_in_ledger : (word : List ℕ) (n : ℕ) → heading word n ≡ line (word ++ ((32 ∷ []) ++ digits n))
unfolding spaced
as_in_ledger word n = simp append_assoc

account_40 : (k : ℕ) (a : Account) → k < 1_000 → nat_abs a.cash < 100_000_000_000_000_000_000 → a.units < 100_000_000 → Characters 40 (account_columns k a)
account_40 k a f g h = both (number 3 k (omega arith) (omega arith)) (both (cash a.cash g) (both (side a.side) (number 8 a.units (omega arith) (omega arith))))

receipt_40 : (i : ℕ) (r : Receipt) → i < 10_000 → r.owner < 10_000 → Characters 40 (receipt_columns i r)
receipt_40 i r f g = both (number 4 i (omega arith) (omega arith)) (both (number 4 r.owner (omega arith) (omega arith)) (both (class r.bonded) (state r.state)))

-- a stage's number has one digit
pub stage_few : (s : Stage) → stage_number s < 10
stage_few Stage.Paired = omega arith
stage_few Stage.Prepaid = omega arith
stage_few Stage.Held = omega arith
stage_few Stage.Closed = omega arith
stage_few Stage.Ended = omega arith
stage_few Stage.Funded = omega arith
stage_few Stage.Awaiting = omega arith

match_40 : (j : ℕ) (m : Match) → j < 1_000 → m.buyer < 1_000 → m.seller < 1_000 → m.units < 100_000 → m.price < 100_000_000 → m.held < 10_000_000_000_000_000 → Characters 40 (match_columns j m)
match_40 j m f g h k l n =
    both (both (number 3 j (omega arith) (omega arith)) (both (number 3 m.buyer (omega arith) (omega arith)) (number 3 m.seller (omega arith) (omega arith))))
    (both (number 5 m.units (omega arith) (omega arith)) (both (number 8 m.price (omega arith) (omega arith))
    (both (number 2 (stage_number m.stage) (omega arith) (omega (arith, stage_few m.stage))) (number 16 m.held (omega arith) (omega arith)))))

count_40 : (word : List ℕ) (n : ℕ) → length word ≤ 8 → printable word ≡ true → n < 2 ^ 64 → Characters 40 (count_columns word n)
unfolding padded
count_40 word n f g h =
    let t = word ++ ((32 ∷ []) ++ digits n) in
    let few : length t ≤ 40 = simp length-append (omega (arith, digits_64 n h)) in
    let clean = clean_append word _ g (clean_cons 32 (digits n) (omega arith) (omega arith) (clean_digits n)) in
    record { count = padded_length 40 t few; clean = clean_append t (spaces (40 - length t)) clean (clean_spaces (40 - length t)) }

lined_append : {m n : ℕ} {s t : List ℕ} → Lined m s → Lined n t → Lined (m + n) (s ++ t)
lined_append {n = n} {t = t} none q = subst (λ (k : ℕ). Lined k t) (sym (zero-add n)) q
lined_append {n = n} {t = t} (more {n = m} {t = l} {rest = rest} c p) q = rw (suc-add m n, append_assoc (line l) rest t) (more c (lined_append p q))

-- one line, and the lines of n rows
lined_one : {t : List ℕ} → Characters 40 t → Lined 1 (line t)
lined_one {t} c = subst (Lined 1) (append-nil (line t)) (more c none)

lined_each : (n i : ℕ) (f : ℕ → List ℕ) → ((k : ℕ) → k < i + n → Lined 1 (f k)) → Lined n (each n i f)
unfolding each
lined_each zero i f h = none
lined_each (suc n) i f h = let e : suc n ≡ 1 + n = omega arith in rw e (lined_append (h i (omega arith)) (lined_each n (i + 1) f (λ k g. h k (omega arith))))

lined_length : {n : ℕ} {t : List ℕ} → Lined n t → length t ≡ 41 * n
lined_length none = refl
lined_length (more {rest = rest} c p) = simp length-append (omega (arith, c.count, lined_length p))

-- ---- the page of a reached book

pub few : {b : Book} → Reached b → (b.account_count ≤ 32) × (b.receipt_count ≤ 256) × (b.match_count ≤ 256)
few h = let t = (sound h).tables.core in (t.accounts.few, t.receipts.few, t.matches.few)

-- what the price and the money held of a match come to
pub fit : {b : Book} → Reached b → (j : ℕ) → j < b.match_count → (((match_at b j).price < 100_000_000) × ((match_at b j).held < 10_000_000_000_000_000))
fit h j g = let m = (sound h).tables.core.matches.rows j g in (omega (arith, m.price_high), omega (arith, m.held_few))

module _ {b : Book} (h : Reached b) where
  account_lined : (k : ℕ) → k < 0 + b.account_count → Lined 1 (account_entry b.accounts k)
  unfolding account_entry
  account_lined k g =
      let s = sound h in
      let a = s.tables.core.accounts.rows k (omega arith) in
      lined_one (account_40 k (account_at b k) (omega (arith, (few h).0)) (omega (arith, s.cash_few k)) (omega (arith, a.few)))

  receipt_lined : (i : ℕ) → i < 0 + b.receipt_count → Lined 1 (receipt_entry b.receipts i)
  unfolding receipt_entry
  receipt_lined i g =
      let r = (sound h).tables.core.receipts.rows i (omega arith) in
      lined_one (receipt_40 i (receipt_at b i) (omega (arith, (few h).1)) (omega (arith, (few h).0, r.owner_there)))

  match_lined : (j : ℕ) → j < 0 + b.match_count → Lined 1 (match_entry b.matches j)
  unfolding match_entry
  match_lined j g =
      let m = (sound h).tables.core.matches.rows j (omega arith) in
      let f = fit h j (omega arith) in
      lined_one (match_40 j (match_at b j) (omega (arith, (few h).2)) (omega (arith, (few h).0, m.buyer_there)) (omega (arith, (few h).0, m.seller_there)) (omega (arith, m.few)) f.0 f.1)

  -- "lines of 40 characters and a newline"
  pub page_lined : Lined (line_count b) (page b)
  unfolding page printable
  page_lined =
      let accounts = lined_append (lined_one (count_40 (bytes "accounts") b.account_count (omega arith) refl (omega (arith, (few h).0)))) (lined_each b.account_count 0 _ account_lined) in
      let receipts = lined_append (lined_one (count_40 (bytes "receipts") b.receipt_count (omega arith) refl (omega (arith, (few h).1)))) (lined_each b.receipt_count 0 _ receipt_lined) in
      let matches = lined_append (lined_one (count_40 (bytes "matches") b.match_count (omega arith) refl (omega (arith, (few h).2)))) (lined_each b.match_count 0 _ match_lined) in
      let fund = lined_one (count_40 (bytes "fund") b.fund (omega arith) refl (omega (arith, (sound h).fund_few))) in
      let e : line_count b ≡ 1 + b.account_count + (1 + b.receipt_count + (1 + b.match_count + 1)) = omega arith in
      rw e (lined_append accounts (lined_append receipts (lined_append matches fund)))

  pub page_length : length (page b) ≡ 41 * line_count b
  page_length = lined_length page_lined
