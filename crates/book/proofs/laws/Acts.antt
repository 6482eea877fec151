-- A call on a match as one act: entries, a sum for the fund, the money held and the stage of the match, and what becomes of its receipts. Two acts on two
-- matches come to the same book in either order, field by field, and neither touches what is the other match's. Assumes nothing.
use Rattle.std.specs.Prelude.{◌≡◌, refl, ◌≢◌, Bool, true, false, List, [], ◌∷◌, ℕ, zero, suc, ◌+◌, ℤ, ◌+ℤ◌, get_or, set}
use Rattle.std.proofs.Common.{sym, ap, ◌∙◌, arith, eqb-true, ne_eqb, get_or-set_other}
use lib.Seq.{set-get_or, set_comm}
use Rattle.coal.specs.Choice.{pick}
use Rattle.whole.specs.Ring.{ring}
use Rattle.book.specs.Types.{ReceiptState, Stage, Account, Receipt, Book, Outcome}
use Rattle.book.specs.Counting.{iter}
use Rattle.book.specs.Rows.{blank_account, blank_receipt, blank_match, with_cash, is_frozen_for, is_ordinary_for, with_held}
use Rattle.book.specs.Tables.{account_at, match_at, put_match, with_accounts, with_receipts, with_fund, frozen_at, frozen_receipts, ordinary_at, ordinary_receipts}
use Rattle.book.specs.Answers.{refuse, refuse_if, accept}
use Rattle.book.specs.Entries.{Entry}
use Rattle.book.proofs.laws.Counting.{by_pick, at_set, tally_same}
use Rattle.book.proofs.laws.Posting.{with_more}

-- ---- receipts

-- what becomes of the receipts that are frozen for a match: they stay so, or each is free, with an owner by the one that it had
pub data Move : Type 0 where
  stay : Move
  free : (ℕ → ℕ) → Move

abbrev pub moved : Move → ℕ → Receipt → Receipt
moved stay j r = r
moved (free o) j r = pick (is_frozen_for j r.state) (record { owner = o r.owner; bonded = r.bonded; state = ReceiptState.Free }) r

-- any other receipt is as it was
moved_other : (x : Move) (j : ℕ) (r : Receipt) → is_frozen_for j r.state ≡ false → moved x j r ≡ r
moved_other stay j r h = refl
moved_other (free o) j r h = rw h

moved_bonded : (x : Move) (j : ℕ) (r : Receipt) → (moved x j r).bonded ≡ r.bonded
moved_bonded stay j r = refl
moved_bonded (free o) j r = by_pick (λ (q : Receipt). q.bonded ≡ r.bonded) (is_frozen_for j r.state) (λ e. refl) (λ e. refl)

-- a receipt is frozen for one match only
one_match : (i j : ℕ) → i ≢ j → (s : ReceiptState) → is_frozen_for j s ≡ true → is_frozen_for i s ≡ false
one_match i j d ReceiptState.Free h = refl
one_match i j d (ReceiptState.Frozen n) h = ne_eqb n i (λ e. d (sym e ∙ eqb-true n j h))
one_match i j d ReceiptState.Struck h = refl

-- match i has the receipts that it had
moved_same : (i j : ℕ) → i ≢ j → (x : Move) (r : Receipt) → is_frozen_for i (moved x j r).state ≡ is_frozen_for i r.state
moved_same i j d stay r = refl
moved_same i j d (free o) r = by_pick (λ (q : Receipt). is_frozen_for i q.state ≡ is_frozen_for i r.state) (is_frozen_for j r.state) (λ e. sym (one_match i j d r.state e)) (λ e. refl)

moved_both : (i j : ℕ) → i ≢ j → (x y : Move) (r : Receipt) → moved x i (moved y j r) ≡ moved y j (moved x i r)
moved_both i j d x y r = go (is_frozen_for i r.state) refl
  where
    d' : j ≢ i
    d' e = d (sym e)

    go : (t : Bool) → is_frozen_for i r.state ≡ t → moved x i (moved y j r) ≡ moved y j (moved x i r)
    go false e = moved_other x i (moved y j r) (moved_same i j d y r ∙ e) ∙ ap (moved y j) (sym (moved_other x i r e))
    go true e =
        let h = one_match j i d' r.state e in
        ap (moved x i) (moved_other y j r h) ∙ sym (moved_other y j (moved x i r) (moved_same j i d' x r ∙ h))

-- ---- a table of receipts, gone through

abbrev pub turn : (Receipt → Receipt) → ℕ → List Receipt → List Receipt
turn f i l = set l i (f (get_or l i blank_receipt))

turn_both : (f g : Receipt → Receipt) → ((r : Receipt) → f (g r) ≡ g (f r)) → (i k : ℕ) (l : List Receipt) → turn f i (turn g k l) ≡ turn g k (turn f i l)
turn_both f g h i k [] = refl
turn_both f g h zero zero (r ∷ l) = ap (λ (z : Receipt). z ∷ l) (h r)
turn_both f g h zero (suc k) (r ∷ l) = refl
turn_both f g h (suc i) zero (r ∷ l) = refl
turn_both f g h (suc i) (suc k) (r ∷ l) = ap (λ (z : List Receipt). r ∷ z) (turn_both f g h i k l)

iter_past : {S : Type 0} (F : ℕ → S → S) (g : S → S) → ((i : ℕ) (s : S) → F i (g s) ≡ g (F i s)) → (n i : ℕ) (s : S) → iter n i F (g s) ≡ g (iter n i F s)
unfolding iter
iter_past F g h zero i s = refl
iter_past F g h (suc n) i s = ap (iter n (i + 1) F) (h i s) ∙ iter_past F g h n (i + 1) (F i s)

iter_both : {S : Type 0} (F G : ℕ → S → S) → ((i k : ℕ) (s : S) → F i (G k s) ≡ G k (F i s)) → (n m i k : ℕ) (s : S) → iter n i F (iter m k G s) ≡ iter m k G (iter n i F s)
unfolding iter
iter_both F G h n zero i k s = refl
iter_both F G h n (suc m) i k s = iter_both F G h n m i (k + 1) (G k s) ∙ ap (iter m (k + 1) G) (iter_past F (G k) (λ j z. h j k z) n i s)

-- where each row is put as it was
pub iter_stay : (n i : ℕ) (l : List Receipt) → iter n i (turn (λ r. r)) l ≡ l
unfolding iter
iter_stay zero i l = refl
iter_stay (suc n) i l = rw (set-get_or l i blank_receipt) (iter_stay n (i + 1) l)

-- what each turn leaves of a row
rows_left : (q : Receipt → Bool) (f : Receipt → Receipt) → ((r : Receipt) → q (f r) ≡ q r) → (n i k : ℕ) (l : List Receipt) → q (get_or (iter n i (turn f) l) k blank_receipt) ≡ q (get_or l k blank_receipt)
unfolding iter
rows_left q f h zero i k l = refl
rows_left q f h (suc n) i k l =
    rows_left q f h n (i + 1) k (turn f i l)
    ∙ at_set (λ (r : Receipt). q r ≡ q (get_or l k blank_receipt)) l i k (f (get_or l i blank_receipt)) blank_receipt (λ e. h (get_or l i blank_receipt) ∙ ap (λ (z : ℕ). q (get_or l z blank_receipt)) (sym e)) refl

-- ---- accounts

-- entries posted to a table, one after the other
abbrev pub post_all : List Account → List Entry → List Account
post_all l [] = l
post_all l (e ∷ es) = post_all (with_more l e.account e.amount) es

swapped : (x y z : ℤ) → x +ℤ y +ℤ z ≡ x +ℤ z +ℤ y
swapped x y z = simp ring

more_both : (l : List Account) (k i : ℕ) (x y : ℤ) → with_more (with_more l k x) i y ≡ with_more (with_more l i y) k x
more_both [] k i x y = refl
more_both (a ∷ l) zero zero x y = ap (λ (z : ℤ). with_cash a z ∷ l) (swapped a.cash x y)
more_both (a ∷ l) zero (suc i) x y = refl
more_both (a ∷ l) (suc k) zero x y = refl
more_both (a ∷ l) (suc k) (suc i) x y = ap (λ (z : List Account). a ∷ z) (more_both l k i x y)

more_past : (l : List Account) (es : List Entry) (k : ℕ) (x : ℤ) → post_all (with_more l k x) es ≡ with_more (post_all l es) k x
more_past l [] k x = refl
more_past l (e ∷ es) k x = ap (λ (z : List Account). post_all z es) (more_both l k e.account x e.amount) ∙ more_past (with_more l e.account e.amount) es k x

post_both : (l : List Account) (es ds : List Entry) → post_all (post_all l es) ds ≡ post_all (post_all l ds) es
post_both l [] ds = refl
post_both l (e ∷ es) ds = post_both (with_more l e.account e.amount) es ds ∙ ap (λ (z : List Account). post_all z es) (more_past l ds e.account e.amount)

-- account k has no entry
abbrev pub Off : ℕ → List Entry → Type 0
Off k [] = Unit {0}
Off k (e ∷ es) = (k ≢ e.account) × Off k es

post_off : (l : List Account) (es : List Entry) (k : ℕ) → Off k es → get_or (post_all l es) k blank_account ≡ get_or l k blank_account
post_off l [] k h = refl
post_off l (e ∷ es) k h = post_off (with_more l e.account e.amount) es k h.1 ∙ get_or-set_other l e.account k _ blank_account h.0

-- ---- acts

pub record Act : Type 0 where
  pub entries : List Entry
  pub gained : ℕ
  pub held : ℕ
  pub stage : Stage
  pub move : Move

-- what it does on match j
unfoldable pub act : Book → ℕ → Act → Book
act b j a =
    with_receipts (put_match (with_fund (with_accounts b (post_all b.accounts a.entries) b.account_count) (b.fund + a.gained)) j (with_held (match_at b j) a.held a.stage))
    (iter b.receipt_count 0 (turn (moved a.move j)) b.receipts) b.receipt_count

act_both : (b : Book) (i j : ℕ) → i ≢ j → (x y : Act) → act (act b i x) j y ≡ act (act b j y) i x
unfolding act
act_both b i j d x y =
    let n = b.receipt_count in
    let m = with_held (match_at b i) x.held x.stage in
    let k = with_held (match_at b j) y.held y.stage in
    let g : b.fund + x.gained + y.gained ≡ b.fund + y.gained + x.gained = omega arith in
    rw (
      g,
      post_both b.accounts x.entries y.entries,
      get_or-set_other b.matches i j m blank_match (λ e. d (sym e)),
      get_or-set_other b.matches j i k blank_match d,
      set_comm b.matches i j m k d,
      iter_both (turn (moved y.move j)) (turn (moved x.move i)) (turn_both (moved y.move j) (moved x.move i) (moved_both j i (λ e. d (sym e)) y.move x.move)) n n 0 0 b.receipts,
    )

-- ---- a call on a match: refused with a number, or an act

pub data Verdict : Type 0 where
  no : ℕ → Verdict
  does : Act → Verdict

abbrev pub run : Book → ℕ → Verdict → Outcome
run b j (no n) = refuse n b
run b j (does a) = accept 0 (act b j a)

pub run_both : (b : Book) (i j : ℕ) → i ≢ j → (x y : Verdict) → (run (run b i x).book j y).book ≡ (run (run b j y).book i x).book
run_both b i j d (no n) (no m) = refl
run_both b i j d (no n) (does y) = refl
run_both b i j d (does x) (no m) = refl
run_both b i j d (does x) (does y) = act_both b i j d x y

pub run_answer : (b e : Book) (i : ℕ) (x : Verdict) → (run b i x).answer ≡ (run e i x).answer
run_answer b e i (no n) = refl
run_answer b e i (does x) = refl

pub run_count : (b : Book) (j : ℕ) (x : Verdict) → (run b j x).book.match_count ≡ b.match_count
unfolding act
run_count b j (no n) = refl
run_count b j (does x) = refl

-- a test in front
pub run_if : (b : Book) (j : ℕ) (t : Bool) (n : ℕ) {o : Outcome} (x : Verdict) → o ≡ run b j x → refuse_if t n b o ≡ run b j (pick t (no n) x)
run_if b j true n x h = refl
run_if b j false n x h = h

-- account k has no entry in what a call does
abbrev pub Spares : ℕ → Verdict → Type 0
Spares k (no n) = Unit {0}
Spares k (does a) = Off k a.entries

pub spares_if : (k : ℕ) (t : Bool) (n : ℕ) (x : Verdict) → Spares k x → Spares k (pick t (no n) x)
spares_if k true n x h = tt
spares_if k false n x h = h

-- ---- what a call on match j leaves

-- in book e, all that Pay and Hand over read of match i is as it is in book b
pub record Left (b e : Book) (i : ℕ) : Type 0 where
  pub count : e.match_count ≡ b.match_count
  pub day : e.day ≡ b.day
  pub board : e.board ≡ b.board
  pub tonnes : e.tonnes ≡ b.tonnes
  pub rate : e.rate ≡ b.rate
  pub row : match_at e i ≡ match_at b i
  pub buyer : account_at e (match_at b i).buyer ≡ account_at b (match_at b i).buyer
  pub seller : account_at e (match_at b i).seller ≡ account_at b (match_at b i).seller
  pub frozen : frozen_receipts e i ≡ frozen_receipts b i
  pub ordinary : ordinary_receipts e i ≡ ordinary_receipts b i

pub run_left : (b : Book) (i j : ℕ) → i ≢ j → (x : Verdict) → Spares (match_at b i).buyer x → Spares (match_at b i).seller x → Left b (run b j x).book i
unfolding act frozen_receipts frozen_at ordinary_receipts ordinary_at
run_left b i j d (no n) g h = search
run_left b i j d (does a) g h =
    let f = moved a.move j in
    let n = b.receipt_count in
    let same : (r : Receipt) → is_ordinary_for i (f r) ≡ is_ordinary_for i r = λ r. rw (moved_same i j d a.move r, moved_bonded a.move j r) in
    record {
      count = refl;
      day = refl;
      board = refl;
      tonnes = refl;
      rate = refl;
      row = get_or-set_other b.matches j i _ blank_match d;
      buyer = post_off b.accounts a.entries (match_at b i).buyer g;
      seller = post_off b.accounts a.entries (match_at b i).seller h;
      frozen = tally_same _ _ n 0 (λ k p q. rows_left (λ r. is_frozen_for i r.state) f (moved_same i j d a.move) n 0 k b.receipts);
      ordinary = tally_same _ _ n 0 (λ k p q. rows_left (is_ordinary_for i) f same n 0 k b.receipts);
    }
