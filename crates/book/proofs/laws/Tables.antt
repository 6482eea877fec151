-- How one change of a book changes what holds of its tables: of each table, and of all. Assumes nothing.
use Rattle.std.specs.Prelude.{◌≡◌, refl, ◌≢◌, Bool, true, false, List, ℕ, ◌+◌, ◌≤◌, ◌<◌, length, get_or, set, None}
use Rattle.std.proofs.Common.{sym, ap, ◌∙◌, arith, length-set, get_or-set_other, ne_eqb}
use Rattle.std.proofs.lemmas.Bool.{eqb-false}
use Rattle.book.specs.Types.{Side, ReceiptState, Lots, Account, Receipt, Match, Book}
use Rattle.book.specs.Counting.{one_if}
use Rattle.book.specs.Rows.{blank_account, blank_receipt, blank_match, is_frozen_for, is_frozen, has_frozen, with_position}
use Rattle.book.specs.Tables.{put_account, with_receipts, frozen_at}
use Rattle.book.proofs.laws.Counting.{by_eq, at_set, rows_set, rows_add, tally_sum, tally_none, sum_set, sum_add, impossible}
use Rattle.book.proofs.laws.Sound.{SoundLots, SoundAccount, SoundOffer, SoundMatch, SoundReceipt, frozen_of, AccountTable, MatchTable, ReceiptTable, Core, SoundTables}

-- ---- accounts

accounts_put : {day n : ℕ} {l : List Account} (k : ℕ) (a : Account) → AccountTable day n l → SoundAccount day a → AccountTable day n (set l k a)
accounts_put {day} {n} {l} k a t r = record { size = simp length-set t.size; few = t.few; rows = rows_set (SoundAccount day) l n k a blank_account t.rows r }

pub accounts_add : {day n : ℕ} {l : List Account} (a : Account) → n < 32 → AccountTable day n l → SoundAccount day a → AccountTable day (n + 1) (set l n a)
accounts_add {day} {n} {l} a h t r = record { size = simp length-set t.size; few = omega arith; rows = rows_add (SoundAccount day) l n a blank_account (omega (arith, t.size)) t.rows r }

-- on another side, with other units and other lots
pub account_placed : {day : ℕ} {a : Account} {s : Side} {u : ℕ} {l : Lots} → SoundAccount day a → u ≤ 1_000 → (s ≡ Side.Flat → u ≡ 0) → (s ≡ Side.Long → 0 < u) → (s ≡ Side.Short → 0 < u)
    → SoundLots day u l → SoundAccount day (with_position a s u l)
account_placed r n f l s d = search

pub no_offer : (a : Account) → a.offer ≡ None → SoundOffer a
no_offer a e = record { offered = λ u h. impossible (cc); offered_some = λ u h. impossible (cc) }

pub core_put : {b : Book} (k : ℕ) (a : Account) → Core b → SoundAccount b.day a → Core (put_account b k a)
core_put k a c r = search accounts_put

pub tables_put : {b : Book} (k : ℕ) (a : Account) → SoundTables b → SoundAccount b.day a → SoundOffer a → SoundTables (put_account b k a)
tables_put {b} k a r h o = record {
  core = core_put k a r.core h;
  offers = rows_set SoundOffer b.accounts b.account_count k a blank_account r.offers o;
  matches_few = r.matches_few;
  matches_open = r.matches_open;
}

-- ---- matches

pub matches_put : {n day tonnes : ℕ} {board : Bool} {count : ℕ} {l : List Match} (j : ℕ) (c : Match) → MatchTable n day tonnes board count l → SoundMatch n day tonnes board c
    → MatchTable n day tonnes board count (set l j c)
matches_put {n} {day} {tonnes} {board} {count} {l} j c t r = record { size = simp length-set t.size; few = t.few; rows = rows_set (SoundMatch n day tonnes board) l count j c blank_match t.rows r }

pub matches_add : {n day tonnes : ℕ} {board : Bool} {count : ℕ} {l : List Match} (c : Match) → count < 256 → MatchTable n day tonnes board count l → SoundMatch n day tonnes board c
    → MatchTable n day tonnes board (count + 1) (set l count c)
matches_add {n} {day} {tonnes} {board} {count} {l} c h t r = record { size = simp length-set t.size; few = omega arith; rows = rows_add (SoundMatch n day tonnes board) l count c blank_match (omega (arith, t.size)) t.rows r }

-- ---- more accounts, a later day

pub matches_more : {n n' day day' tonnes : ℕ} {board : Bool} {count : ℕ} {l : List Match} → n ≤ n' → day ≤ day' → MatchTable n day tonnes board count l → MatchTable n' day' tonnes board count l
matches_more h g t = record { size = t.size; few = t.few; rows = λ j i. let r = t.rows j i in search arith }

pub receipts_more : {n n' count : ℕ} {ms : List Match} {board : Bool} {m : ℕ} {l : List Receipt} → n ≤ n' → ReceiptTable n m ms board count l → ReceiptTable n' m ms board count l
receipts_more h t = record { size = t.size; few = t.few; none = t.none; rows = λ i g. let r = t.rows i g in search arith; no_more = t.no_more }

-- ---- frozen receipts, counted

pub frozen_add : (l : List Receipt) (n : ℕ) (r : Receipt) (j : ℕ) → n < length l → frozen_of (n + 1) (set l n r) j ≡ frozen_of n l j + one_if (is_frozen_for j r.state)
unfolding frozen_at
frozen_add l n r j h =
    omega (arith, tally_sum (frozen_at (set l n r) j) (n + 1) 0, tally_sum (frozen_at l j) n 0, sum_add (λ (x : Receipt). one_if (is_frozen_for j x.state)) l n r blank_receipt h)

pub frozen_set : (l : List Receipt) (n k : ℕ) (r : Receipt) (j : ℕ) → k < n → k < length l
    → frozen_of n (set l k r) j + one_if (is_frozen_for j (get_or l k blank_receipt).state) ≡ frozen_of n l j + one_if (is_frozen_for j r.state)
unfolding frozen_at
frozen_set l n k r j h s =
    omega (arith, tally_sum (frozen_at (set l k r) j) n 0, tally_sum (frozen_at l j) n 0, sum_set (λ (x : Receipt). one_if (is_frozen_for j x.state)) l n k r blank_receipt h s)

-- none of the first n receipts of a table is frozen for match j
abbrev pub NoneFrozen : ℕ → List Receipt → ℕ → Type 0
NoneFrozen n l j = (i : ℕ) → i < n → is_frozen_for j (get_or l i blank_receipt).state ≡ false

frozen_none : (n : ℕ) (l : List Receipt) (j : ℕ) → NoneFrozen n l j → frozen_of n l j ≡ 0
unfolding frozen_at
frozen_none n l j h = tally_none (frozen_at l j) n 0 (λ k a b. h k (omega arith))

frozen_not : {s : ReceiptState} (j k : ℕ) → is_frozen_for j s ≡ false → s ≡ ReceiptState.Frozen k → k ≢ j
frozen_not {s} j k e h = eqb-false k j (sym (ap (is_frozen_for j) h) ∙ e)

pub not_frozen : (s : ReceiptState) (j : ℕ) → ((k : ℕ) → s ≡ ReceiptState.Frozen k → k ≢ j) → is_frozen_for j s ≡ false
not_frozen ReceiptState.Free j h = refl
not_frozen (ReceiptState.Frozen k) j h = ne_eqb k j (h k refl)
not_frozen ReceiptState.Struck j h = refl

unfrozen : {A : Type 0} {s : ReceiptState} {k : ℕ} → is_frozen s ≡ false → s ≡ ReceiptState.Frozen k → A
unfrozen e h = impossible (cc (rw h at e))

pub unfrozen_for : (s : ReceiptState) (j : ℕ) → is_frozen s ≡ false → is_frozen_for j s ≡ false
unfrozen_for s j e = not_frozen s j (λ k h. unfrozen e h)

-- ---- receipts

-- a receipt that is not frozen: all but its owner holds of it at once
unfrozen_row : {n count : ℕ} {ms : List Match} {r : Receipt} → r.owner < n → is_frozen r.state ≡ false → SoundReceipt n count ms r
unfrozen_row h e = search unfrozen

-- one is put that is not frozen
pub receipts_put : {n m count : ℕ} {ms : List Match} {board : Bool} {l : List Receipt} (k : ℕ) (r : Receipt) → k < count → r.owner < n → is_frozen r.state ≡ false
    → ReceiptTable n m ms board count l → ReceiptTable n m ms board count (set l k r)
receipts_put {n} {m} {count} {ms} {board} {l} k r h o e t = record {
  size = simp length-set t.size;
  few = t.few;
  none = t.none;
  rows = rows_set (SoundReceipt n m ms) l count k r blank_receipt t.rows (unfrozen_row o e);
  no_more = λ j i. let x = frozen_set l count k r j h (omega (arith, t.size, t.few)) in let y = ap one_if (unfrozen_for r.state j e) in omega (arith, t.no_more j i);
}

-- one is added that is not frozen
pub receipts_add : {n m count : ℕ} {ms : List Match} {board : Bool} {l : List Receipt} (r : Receipt) → count < 256 → r.owner < n → is_frozen r.state ≡ false → board ≡ false
    → ReceiptTable n m ms board count l → ReceiptTable n m ms board (count + 1) (set l count r)
receipts_add {n} {m} {count} {ms} {board} {l} r h o e q t = record {
  size = simp length-set t.size;
  few = omega arith;
  none = λ z. impossible (cc);
  rows = rows_add (SoundReceipt n m ms) l count r blank_receipt (omega (arith, t.size)) t.rows (unfrozen_row o e);
  no_more = λ j i. let x = frozen_add l count r j (omega (arith, t.size)) in let y = ap one_if (unfrozen_for r.state j e) in omega (arith, t.no_more j i);
}

-- match j, for which none is frozen, is put or added
pub receipts_rematched : {n m count : ℕ} {ms : List Match} {board : Bool} {l : List Receipt} (m' j : ℕ) (c : Match) → m ≤ m' → ((k : ℕ) → k < m' → k ≢ j → k < m)
    → NoneFrozen count l j → ReceiptTable n m ms board count l → ReceiptTable n m' (set ms j c) board count l
receipts_rematched {n} {m} {count} {ms} {board} {l} m' j c a f z t = record {
  size = t.size;
  few = t.few;
  none = t.none;
  rows = λ i h. let r = t.rows i h in record {
    owner_there = r.owner_there;
    frozen_there = λ k e. omega (arith, r.frozen_there k e);
    frozen_stage = λ k e. rw (get_or-set_other ms j k c blank_match (frozen_not j k (z i h) e)) (r.frozen_stage k e);
    frozen_seller = λ k e. rw (get_or-set_other ms j k c blank_match (frozen_not j k (z i h) e)) (r.frozen_seller k e);
  };
  no_more = λ k h. by_eq k j (λ e. rw e (omega (arith, frozen_none count l j z))) (λ e. rw (get_or-set_other ms j k c blank_match e) (t.no_more k (f k h e)));
}

-- match j is put at a stage at which receipts are frozen for it, with its seller and its units
pub receipts_restaged : {n m count : ℕ} {ms : List Match} {board : Bool} {l : List Receipt} (j : ℕ) (c : Match) → has_frozen c.stage ≡ true → c.seller ≡ (get_or ms j blank_match).seller → c.units ≡ (get_or ms j blank_match).units
    → ReceiptTable n m ms board count l → ReceiptTable n m (set ms j c) board count l
receipts_restaged {n} {m} {count} {ms} {board} {l} j c s o u t = record {
  size = t.size;
  few = t.few;
  none = t.none;
  rows = λ i h. let r = t.rows i h in record {
    owner_there = r.owner_there;
    frozen_there = r.frozen_there;
    frozen_stage = λ k e. at_set (λ (x : Match). has_frozen x.stage ≡ true) ms j k c blank_match (λ q. s) (r.frozen_stage k e);
    frozen_seller = λ k e. at_set (λ (x : Match). (get_or l i blank_receipt).owner ≡ x.seller) ms j k c blank_match (λ q. r.frozen_seller k e ∙ ap (λ (a : ℕ). (get_or ms a blank_match).seller) q ∙ sym o) (r.frozen_seller k e);
  };
  no_more = λ k h. at_set (λ (x : Match). frozen_of count l k ≤ x.units) ms j k c blank_match (λ q. omega (arith, t.no_more k h, u, ap (λ (a : ℕ). (get_or ms a blank_match).units) q)) (t.no_more k h);
}

pub tables_receipts : {b : Book} (l : List Receipt) (n : ℕ) → ReceiptTable b.account_count b.match_count b.matches b.board n l → SoundTables b → SoundTables (with_receipts b l n)
tables_receipts l n t r = search
