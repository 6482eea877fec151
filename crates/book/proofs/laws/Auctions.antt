-- Pay puts to auction the matches of an overseas buyer with any ordinary receipt, and no other: the count of ordinary receipts is above zero where there is
-- one, and zero where there is none. Assumes nothing.
use Rattle.std.specs.Prelude.{◌≡◌, Bool, true, not, ◌&&◌, ℕ, ltb, eqb, Option, Some, None}
use Rattle.std.proofs.Math.Path.{refl, ap}
use Rattle.std.proofs.Common.{sym, ◌∙◌, arith}
use Rattle.std.proofs.Math.Bool.{false}
use Rattle.std.proofs.Math.Seq.{get_or-set_same}
use borrow.Author.Tests.{eqb-true, eq-eqb, lt-ltb, not-true}
use Rattle.coal.specs.Choice.{pick}
use Rattle.book.specs.Types.{ReceiptState, Stage, Receipt, Book, Answer, Outcome}
use Rattle.book.specs.Counting.{tally}
use Rattle.book.specs.Rows.{blank_match, is_frozen_for, is_ordinary_for, with_held}
use Rattle.book.specs.Tables.{account_at, receipt_at, match_at, charge, ordinary_at, ordinary_receipts}
use Rattle.book.specs.Answers.{is_accepted, refusal_of}
use Rattle.book.specs.Settlement.{value, buyer_fault, seller_fault, into_held, to_auction, paid_stage, paid, pay_match}
use Rattle.book.specs.Lists.{Reached}
use Rattle.book.specs.Agreement.{is_faultless, without_fault}
use Rattle.book.specs.Auctions.{stage_paid, Auctions}
use Rattle.book.proofs.laws.Counting.{and_left, and_right, tally_none, tally_some}
use Rattle.book.proofs.laws.Answered.{pay_accepted}
use Rattle.book.proofs.laws.Steps.{reached_tables}

-- ---- a receipt

ordinary : (j : ℕ) (r : Receipt) → r.state ≡ ReceiptState.Frozen j → r.bonded ≡ false → is_ordinary_for j r ≡ true
ordinary j r e f = rw (e, f, eq-eqb j j refl)

-- a receipt that is bonded where it is frozen for match j is no ordinary one of it
not_ordinary : (j : ℕ) (s : ReceiptState) (bonded : Bool) → (s ≡ ReceiptState.Frozen j → bonded ≡ true) → is_frozen_for j s && not bonded ≡ false
not_ordinary j ReceiptState.Free bonded h = refl
not_ordinary j (ReceiptState.Frozen k) bonded h = go (eqb k j) refl
  where
    go : (t : Bool) → eqb k j ≡ t → t && not bonded ≡ false
    go true e = ap not (h (ap ReceiptState.Frozen (eqb-true k j e)))
    go false e = refl
not_ordinary j ReceiptState.Struck bonded h = refl

-- ---- the stage

faultless_is : (x : Option ℕ) → is_faultless x ≡ true → x ≡ None
faultless_is None e = refl
faultless_is (Some x) e = cc

accepted_none : (a : Answer) → is_accepted a ≡ true → refusal_of a ≡ 0
accepted_none (Answer.Accepted n) e = refl
accepted_none (Answer.Closed p t g) e = refl
accepted_none (Answer.Refused n) e = cc

module _ (b : Book) (h : Reached b) (j : ℕ) (a : is_accepted (pay_match b j).answer ≡ true) (f : without_fault b j ≡ true) where
  by_auction : stage_paid b j ≡ pick (to_auction b j (match_at b j)) Stage.Awaiting Stage.Funded
  unfolding without_fault paid paid_stage into_held charge
  by_auction =
      let g = pay_accepted b j refl (accepted_none (pay_match b j).answer a) in
      let r = (reached_tables h).core.matches in
      let both = and_right (not b.board) _ f in
      let x : buyer_fault b j ≡ None = faultless_is _ (and_left (is_faultless (buyer_fault b j)) _ both) in
      let y : seller_fault b j ≡ None = faultless_is _ (and_right (is_faultless (buyer_fault b j)) _ both) in
      let t : b.board ≡ false = not-true _ (and_left (not b.board) _ f) in
      ap (λ (o : Outcome). (match_at o.book j).stage) (sym g.1) ∙ rw (x, y, get_or-set_same b.matches j (with_held (match_at b j) (value b (match_at b j)) (paid_stage b j (match_at b j))) blank_match (omega (arith, g.0.there, r.size, r.few)), t)

pub auctions : Auctions
unfolding to_auction ordinary_receipts ordinary_at
auctions b h j a f =
    let count = tally b.receipt_count 0 (ordinary_at b.receipts j) in
    record {
      any_ordinary = λ o i k e d. by_auction b h j a f ∙ rw (o, lt-ltb 0 count (tally_some _ b.receipt_count 0 i (omega arith) (omega arith) (ordinary j (receipt_at b i) e d)));
      domestic = λ o. by_auction b h j a f ∙ rw o;
      all_bonded = λ g. by_auction b h j a f ∙ none (account_at b (match_at b j).buyer).overseas count
          (tally_none _ b.receipt_count 0 (λ i l k. not_ordinary j (receipt_at b i).state (receipt_at b i).bonded (g i (omega arith))));
    }
  where
    none : (o : Bool) (n : ℕ) → n ≡ 0 → pick (o && ltb 0 n) Stage.Awaiting Stage.Funded ≡ Stage.Funded
    none true n e = rw e
    none false n e = refl
