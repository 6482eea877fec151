-- What one pairing gives a buyer, by the receipts that were free before Close, and what it leaves free. Receipt by receipt. Assumes nothing.
use Rattle.std.specs.Prelude.{◌≡◌, refl, ◌≢◌, Bool, ◌&&◌, List, ℕ, ◌+◌, ◌≤◌, ◌<◌, get_or}
use Rattle.std.proofs.Common.{sym, ◌∙◌}
use Rattle.std.proofs.Math.Path.{ap}
use Rattle.std.proofs.Math.Bool.{true, false}
use native.Mathlib.Omega.{arith}
use Rattle.std.proofs.Math.Dec.{eqb}
use borrow.Author.Tests.{eq-eqb, ne_eqb}
use Rattle.coal.specs.Choice.{pick}
use Rattle.book.specs.Types.{ReceiptState, Account, Receipt, Match, Book}
use Rattle.book.specs.Counting.{tally, one_if}
use Rattle.book.specs.Rows.{blank_receipt, is_free, is_free_of, bonded_only, frozen_for}
use Rattle.book.specs.Tables.{account_at, receipt_at, free_at, free_receipts}
use Rattle.book.specs.Pairing.{pair}
use Rattle.book.specs.Demand3.{frozen_for_buyer, gave}
use Rattle.book.proofs.laws.Counting.{by_pick, one_most, tally_most, tally_same, tally_none, tally_plus, only}
use Rattle.book.proofs.laws.Sound.{Core}
use Rattle.book.proofs.laws.Freezing.{newly, Free, newly_free, newly_count}
use Rattle.book.proofs.laws.Pairing.{Pairable, Paired, pair_core, pair_receipt, paired_accounts, paired_receipts, paired_row, paired_new, paired_old}

-- ---- a book that Close made of b, so far

pub record Since (b z : Book) : Type 0 where
  pub accounts : z.account_count ≡ b.account_count
  pub receipts : z.receipt_count ≡ b.receipt_count
  pub overseas : (k : ℕ) → (account_at z k).overseas ≡ (account_at b k).overseas
  pub bonded : (i : ℕ) → i < b.receipt_count → (receipt_at z i).bonded ≡ (receipt_at b i).bonded
  pub free : (i : ℕ) → i < b.receipt_count → (receipt_at z i).state ≡ ReceiptState.Free → (receipt_at b i).state ≡ ReceiptState.Free

-- receipt i was bonded and free in b, and is frozen in z for a match of buyer k
abbrev gave_at : Book → Book → ℕ → ℕ → Bool
gave_at b z k i = (receipt_at b i).bonded && is_free (receipt_at b i).state && frozen_for_buyer z k (receipt_at z i).state

-- one that is free in b is not frozen there
pub gave_none : (b : Book) (k : ℕ) → gave b b k ≡ 0
unfolding gave
gave_none b k = tally_none (gave_at b b k) b.receipt_count 0 (λ i x y. go (receipt_at b i).bonded (receipt_at b i).state)
  where
    go : (t : Bool) (s : ReceiptState) → t && is_free s && frozen_for_buyer b k s ≡ false
    go true ReceiptState.Free = refl
    go true (ReceiptState.Frozen j) = refl
    go true ReceiptState.Struck = refl
    go false ReceiptState.Free = refl
    go false (ReceiptState.Frozen j) = refl
    go false ReceiptState.Struck = refl

-- ---- tests

and_so : (s t : Bool) → (s ≡ true → t ≡ true) → s && t ≡ s
and_so true t h = h refl
and_so false t h = refl

and_not : (s t : Bool) → (s ≡ true → t ≡ false) → s && t ≡ false
and_not true t h = h refl
and_not false t h = refl

one_and : (s t : Bool) → one_if (s && t) ≤ one_if s
one_and true t = one_most t
one_and false t = omega arith

-- a free receipt of j, asked for another owner and class
free_of : (l : List Receipt) (c d : Bool) (j k x : ℕ) → Free c j (get_or l x blank_receipt) → free_at l d k x ≡ eqb j k && pick d (get_or l x blank_receipt).bonded true
unfolding free_at
free_of l c d j k x f = rw (f.state, f.owner)

-- of those at which p holds, q says the same everywhere
tally_where : (p q : ℕ → Bool) (t : Bool) (n : ℕ) → ((x : ℕ) → x < n → p x ≡ true → q x ≡ t) → tally n 0 (λ x. p x && q x) ≡ pick t (tally n 0 p) 0
tally_where p q true n h = tally_same (λ x. p x && q x) p n 0 (λ x a b. and_so (p x) (q x) (h x (omega arith)))
tally_where p q false n h = tally_none (λ x. p x && q x) n 0 (λ x a b. and_not (p x) (q x) (h x (omega arith)))

-- ---- one pairing

module _ (b z : Book) (c : Bool) (i j u : ℕ) (s : Since b z) (r : Core z) (p : Pairable z i j u) where
  abbrev e : Book
  e = pair z c 1 i j u

  abbrev new : ℕ → Bool
  new = newly c j u z.receipts

  paired : Paired z 1 i j u e
  paired = pair_core z c 1 i j u (omega arith) p r

  by_row : (P : Receipt → Type 0) (x : ℕ) → x < b.receipt_count → (new x ≡ true → P (frozen_for z.match_count (receipt_at z x))) → (new x ≡ false → P (receipt_at z x)) → P (receipt_at e x)
  by_row P x h f g = rw (pair_receipt z c 1 i j u r x (omega (arith, s.receipts))) (by_pick P (new x) f g)

  pub since_pair : Since b e
  since_pair = record {
    accounts = paired_accounts paired ∙ s.accounts;
    receipts = paired_receipts paired ∙ s.receipts;
    overseas = λ k. paired_row p paired r (λ (a : Account). a.overseas ≡ (account_at b k).overseas) k (s.overseas k) (λ a h. h);
    bonded = λ x h. by_row (λ (y : Receipt). y.bonded ≡ (receipt_at b x).bonded) x h (λ q. s.bonded x h) (λ q. s.bonded x h);
    free = λ x h. by_row (λ (y : Receipt). y.state ≡ ReceiptState.Free → (receipt_at b x).state ≡ ReceiptState.Free) x h (λ q f. cc) (λ q. s.free x h);
  }

  -- the matches that were there have the buyers they had
  same_buyer : (k : ℕ) (t : ReceiptState) → ((m : ℕ) → t ≡ ReceiptState.Frozen m → m < z.match_count) → frozen_for_buyer e k t ≡ frozen_for_buyer z k t
  same_buyer k ReceiptState.Free h = refl
  same_buyer k (ReceiptState.Frozen m) h = ap (λ (y : Match). eqb y.buyer k) (paired_old p paired r m (λ q. omega (arith, h m refl)))
  same_buyer k ReceiptState.Struck h = refl

  gave_row : (k x : ℕ) → x < b.receipt_count → one_if (gave_at b e k x) ≡ one_if (gave_at b z k x) + one_if (new x && ((receipt_at z x).bonded && eqb i k))
  gave_row k x h =
      let v = receipt_at b x in
      let w = receipt_at z x in
      by_row (λ (y : Receipt). one_if (v.bonded && is_free v.state && frozen_for_buyer e k y.state) ≡ one_if (gave_at b z k x) + one_if (new x && (w.bonded && eqb i k))) x h
      (λ q.
      let f = newly_free c j u z.receipts x q in
      rw (q, s.bonded x h, f.state, s.free x h f.state, paired_new p paired r) (go v.bonded (eqb i k)))
      (λ q. rw q (rw (same_buyer k w.state (λ m g. (r.receipts.rows x (omega (arith, s.receipts))).frozen_there m g)) (omega arith)))
    where
      go : (t d : Bool) → one_if (t && true && d) ≡ one_if (t && true && false) + one_if (t && d)
      go true true = refl
      go true false = refl
      go false d = refl

  -- the buyer is given the bonded ones of those that are newly frozen
  gave_pair : (k : ℕ) → gave b e k ≡ gave b z k + tally b.receipt_count 0 (λ x. new x && ((receipt_at z x).bonded && eqb i k))
  unfolding gave
  gave_pair k = tally_plus (gave_at b e k) (gave_at b z k) (λ x. new x && ((receipt_at z x).bonded && eqb i k)) b.receipt_count 0 (λ x f g. gave_row k x (omega arith))

  -- what is left free, and what of the newly frozen ones was so
  pub free_pair : (d : Bool) (k : ℕ) → free_receipts z d k ≡ free_receipts e d k + tally z.receipt_count 0 (λ x. new x && free_at z.receipts d k x)
  unfolding free_receipts free_at
  free_pair d k =
      tally_plus (free_at z.receipts d k) (free_at e.receipts d k) (λ x. new x && free_at z.receipts d k x) z.receipt_count 0
      (λ x f g. by_row (λ (y : Receipt). one_if (is_free_of d k (receipt_at z x)) ≡ one_if (is_free_of d k y) + one_if (new x && is_free_of d k (receipt_at z x))) x (omega (arith, s.receipts))
      (λ q. rw q (omega arith)) (λ q. rw q (omega arith)))
      ∙ ap (λ (n : ℕ). tally n 0 (free_at e.receipts d k) + tally z.receipt_count 0 (λ x. new x && free_at z.receipts d k x)) (sym (paired_receipts paired))

  -- a buyer other than the pairing's is given nothing
  pub gave_other : (k : ℕ) → k ≢ i → gave b e k ≡ gave b z k
  gave_other k d = omega (arith, gave_pair k, tally_none (λ x. new x && ((receipt_at z x).bonded && eqb i k)) b.receipt_count 0 (λ x f g. and_not (new x) _ (λ q. and_not (receipt_at z x).bonded _ (λ o. ne_eqb i k (λ y. d (sym y))))))

  -- where the seller has no free bonded receipt nobody is given one
  pub gave_nothing : free_receipts z bonded_only j ≡ 0 → (k : ℕ) → gave b e k ≡ gave b z k
  unfolding free_receipts
  gave_nothing h k =
      let n = b.receipt_count in
      omega (arith, gave_pair k, tally_most (λ x. new x && ((receipt_at z x).bonded && eqb i k)) (free_at z.receipts bonded_only j) n 0 (λ x f g. go x (new x) refl), ap (λ (m : ℕ). tally m 0 (free_at z.receipts bonded_only j)) s.receipts)
    where
      go : (x : ℕ) (t : Bool) → new x ≡ t → one_if (t && ((receipt_at z x).bonded && eqb i k)) ≤ one_if (free_at z.receipts bonded_only j x)
      go x true q = rw (free_of z.receipts c bonded_only j j x (newly_free c j u z.receipts x q), eq-eqb j j refl) (one_and (receipt_at z x).bonded (eqb i k))
      go x false q = omega arith

-- ---- a pairing of the first pass

module _ (b z : Book) (i j u : ℕ) (s : Since b z) (r : Core z) (p : Pairable z i j u) (h : u ≤ free_receipts z bonded_only j) where
  -- all of the units are frozen
  whole : tally z.receipt_count 0 (newly bonded_only j u z.receipts) ≡ u
  unfolding free_receipts
  whole = omega (arith, newly_count bonded_only j u z.receipts z.receipt_count, h)

  -- the buyer is given the units, and nobody else anything
  pub first_gave : (k : ℕ) → gave b (pair z bonded_only 1 i j u) k ≡ gave b z k + only i u k
  first_gave k =
      gave_pair b z bonded_only i j u s r p k
      ∙ ap (λ (x : ℕ). gave b z k + x)
      (tally_where (newly bonded_only j u z.receipts) (λ x. (receipt_at z x).bonded && eqb i k) (eqb i k) b.receipt_count (λ x g q. rw (newly_free bonded_only j u z.receipts x q).class)
      ∙ ap (λ (x : ℕ). only i x k) (ap (λ (n : ℕ). tally n 0 (newly bonded_only j u z.receipts)) (sym s.receipts) ∙ whole))

  -- the seller has so many free bonded receipts less, and nobody else
  pub first_free : (k : ℕ) → free_receipts z bonded_only k ≡ free_receipts (pair z bonded_only 1 i j u) bonded_only k + only j u k
  first_free k =
      free_pair b z bonded_only i j u s r p bonded_only k
      ∙ ap (λ (x : ℕ). free_receipts (pair z bonded_only 1 i j u) bonded_only k + x)
      (tally_where (newly bonded_only j u z.receipts) (free_at z.receipts bonded_only k) (eqb j k) z.receipt_count
      (λ x g q. let f = newly_free bonded_only j u z.receipts x q in free_of z.receipts bonded_only bonded_only j k x f ∙ rw f.class (and_so (eqb j k) true (λ o. refl)))
      ∙ ap (λ (x : ℕ). only j x k) whole)
