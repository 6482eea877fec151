-- The receipts of a pairing: which ones are frozen and how many, and that the table stays sound. By the turns of the loop, of which each sees one
-- receipt. Assumes nothing.
use Rattle.std.specs.Prelude.{◌≡◌, ◌≢◌, Bool, ◌&&◌, List, eqb, length, get_or, set}
use Rattle.std.proofs.Math.Path.{refl, ap}
use Rattle.std.proofs.Common.{sym, ◌∙◌, add-one, length-set, get_or-set_same, get_or-set_other}
use Rattle.std.proofs.Math.Bool.{true, false}
use Prim.Native.Nat.{ℕ, zero, suc, ◌+◌, ◌-◌, ◌≤◌, ◌<◌, min}
use native.Mathlib.Omega.{arith}
use Rattle.std.proofs.Math.Dec.{ltb}
use borrow.Author.Tests.{eqb-true, eqb-false, ltb-true, ltb-false, ne_eqb}
use Rattle.coal.specs.Choice.{pick}
use Rattle.book.specs.Types.{ReceiptState, Stage, Receipt, Match}
use Rattle.book.specs.Counting.{iter, tally, one_if}
use Rattle.book.specs.Rows.{blank_receipt, blank_match, is_free, is_free_of, is_frozen_for, frozen_for}
use Rattle.book.specs.Tables.{free_at, frozen_at}
use Rattle.book.specs.Pairing.{freeze_turn, Freezing}
use Rattle.book.proofs.laws.Counting.{by_pick, by_eq, and_left, and_right, iter_keeps, one_most, tally_last, tally_zero, tally_most}
use Rattle.book.proofs.laws.Sound.{SoundReceipt, ReceiptTable}
use Rattle.book.proofs.laws.Tables.{NoneFrozen}

-- ---- which receipts are frozen

-- receipt i of table l is one of the first u that are free, the seller's and of class c
unfoldable pub newly : Bool → ℕ → ℕ → List Receipt → ℕ → Bool
newly c seller u l i = free_at l c seller i && ltb (tally i 0 (free_at l c seller)) u

-- what a free receipt is
pub record Free (c : Bool) (k : ℕ) (r : Receipt) : Type 0 where
  pub state : r.state ≡ ReceiptState.Free
  pub owner : r.owner ≡ k
  pub class : pick c r.bonded true ≡ true

free_is : (s : ReceiptState) → is_free s ≡ true → s ≡ ReceiptState.Free
free_is ReceiptState.Free e = refl
free_is (ReceiptState.Frozen j) e = cc
free_is ReceiptState.Struck e = cc

free_facts : (l : List Receipt) (c : Bool) (k i : ℕ) → free_at l c k i ≡ true → Free c k (get_or l i blank_receipt)
unfolding free_at
free_facts l c k i e = search (free_is, eqb-true, and_left, and_right)

one_none : (t : Bool) → one_if t ≡ 0 → t ≡ false
one_none true e = absurd (omega arith)
one_none false e = refl

one_some : (t : Bool) → 0 < one_if t → t ≡ true
one_some true e = refl
one_some false e = absurd (omega arith)

module _ (c : Bool) (seller u : ℕ) (l : List Receipt) where
  newly_one : (i : ℕ) → one_if (newly c seller u l i) ≡ min (u - tally i 0 (free_at l c seller)) (one_if (free_at l c seller i))
  unfolding newly
  newly_one i = go (free_at l c seller i) (ltb (tally i 0 (free_at l c seller)) u) refl
    where
      go : (s t : Bool) → ltb (tally i 0 (free_at l c seller)) u ≡ t → one_if (s && t) ≡ min (u - tally i 0 (free_at l c seller)) (one_if s)
      go true true e = omega (arith, ltb-true)
      go true false e = omega (arith, ltb-false)
      go false t e = omega arith

  pub newly_free : (i : ℕ) → newly c seller u l i ≡ true → Free c seller (get_or l i blank_receipt)
  unfolding newly
  newly_free i h = free_facts l c seller i (and_left (free_at l c seller i) _ h)

  -- "as many as the units or as there are"
  pub newly_count : (n : ℕ) → tally n 0 (newly c seller u l) ≡ min u (tally n 0 (free_at l c seller))
  newly_count zero = omega (arith, tally_zero (newly c seller u l), tally_zero (free_at l c seller))
  newly_count (suc n) =
      rw (sym (add-one n)) (omega (arith, newly_count n, newly_one n, tally_last (newly c seller u l) n, tally_last (free_at l c seller) n, one_most (free_at l c seller n)))

  -- ---- the loop

  -- after the turns of the first i receipts
  record Froze (j i : ℕ) (t : Freezing) : Type 0 where
    pub size : length t.receipts ≡ length l
    pub below : (k : ℕ) → k < i → get_or t.receipts k blank_receipt ≡ pick (newly c seller u l k) (frozen_for j (get_or l k blank_receipt)) (get_or l k blank_receipt)
    pub above : (k : ℕ) → i ≤ k → get_or t.receipts k blank_receipt ≡ get_or l k blank_receipt
    pub left_over : t.left ≡ u - tally i 0 (free_at l c seller)

  module _ (j i : ℕ) (t : Freezing) (h : i < length l) (f : Froze j i t) where
    stay : newly c seller u l i ≡ false → t.left ≡ u - tally (i + 1) 0 (free_at l c seller) → Froze j (i + 1) t
    stay e g = record {
      size = f.size;
      below = λ k q. by_eq k i (λ z. rw z (rw e (f.above i (omega arith)))) (λ z. f.below k (omega arith));
      above = λ k q. f.above k (omega arith);
      left_over = g;
    }

    set_one : newly c seller u l i ≡ true → t.left - 1 ≡ u - tally (i + 1) 0 (free_at l c seller)
        → Froze j (i + 1) (record { receipts = set t.receipts i (frozen_for j (get_or t.receipts i blank_receipt)); left = t.left - 1 })
    set_one e g =
        let m = t.receipts in
        let r = frozen_for j (get_or m i blank_receipt) in
        record {
          size = simp length-set f.size;
          below = λ k q. by_eq k i
              (λ z. rw z (rw e (get_or-set_same m i r blank_receipt (omega (arith, f.size)) ∙ ap (frozen_for j) (f.above i (omega arith)))))
              (λ z. get_or-set_other m i k r blank_receipt z ∙ f.below k (omega arith));
          above = λ k q. get_or-set_other m i k r blank_receipt (omega arith) ∙ f.above k (omega arith);
          left_over = g;
        }

    froze_one : Froze j (i + 1) (freeze_turn c seller j i t)
    unfolding freeze_turn free_at
    froze_one =
        let p = free_at l c seller in
        let x : one_if (newly c seller u l i) ≡ min (u - tally i 0 p) (one_if (p i)) = newly_one i in
        let y = tally_last p i in
        let z = f.left_over in
        let w : free_at t.receipts c seller i ≡ p i = ap (is_free_of c seller) (f.above i (omega arith)) in
        by_pick (Froze j (i + 1)) (eqb t.left 0)
        (λ e. let v : t.left ≡ 0 = eqb-true _ _ e in stay (one_none (newly c seller u l i) (omega arith)) (omega arith))
        (λ e. let v = eqb-false t.left 0 e in by_pick (Froze j (i + 1)) (free_at t.receipts c seller i)
        (λ g. let o : one_if (p i) ≡ 1 = ap one_if (sym w ∙ g) in set_one (one_some (newly c seller u l i) (omega arith)) (omega arith))
        (λ g. let o : one_if (p i) ≡ 0 = ap one_if (sym w ∙ g) in stay (one_none (newly c seller u l i) (omega arith)) (omega arith)))

  -- the table after the loop
  abbrev pub frozen_table : ℕ → ℕ → List Receipt
  frozen_table j n = (iter n 0 (freeze_turn c seller j) (record { receipts = l; left = u })).receipts

  froze_all : (j n : ℕ) → n ≤ length l → Froze j n (iter n 0 (freeze_turn c seller j) (record { receipts = l; left = u }))
  froze_all j n h =
      iter_keeps (Froze j) (freeze_turn c seller j) n (λ i t g f. froze_one j i t (omega arith) f) n 0 (record { receipts = l; left = u }) (omega arith)
      (record { size = refl; below = λ k g. absurd (omega arith); above = λ k g. refl; left_over = omega (arith, tally_zero (free_at l c seller)) })

  -- ---- the table stays sound

  pub frozen_row : (j n i : ℕ) → n ≤ length l → i < n
      → get_or (frozen_table j n) i blank_receipt ≡ pick (newly c seller u l i) (frozen_for j (get_or l i blank_receipt)) (get_or l i blank_receipt)
  frozen_row j n i h g = (froze_all j n h).below i g

  module _ (j n i : ℕ) (h : n ≤ length l) (g : i < n) where
    -- for match j, for which none was frozen, only new ones
    new_ones : is_frozen_for j (get_or l i blank_receipt).state ≡ false → one_if (frozen_at (frozen_table j n) j i) ≤ one_if (newly c seller u l i)
    unfolding frozen_at
    new_ones z = rw (frozen_row j n i h g)
        (by_pick (λ (r : Receipt). one_if (is_frozen_for j r.state) ≤ one_if (newly c seller u l i)) (newly c seller u l i) (λ e. rw e (one_most (eqb j j))) (λ e. rw z (omega arith)))

    old_ones : (k : ℕ) → k ≢ j → one_if (frozen_at (frozen_table j n) k i) ≤ one_if (frozen_at l k i)
    unfolding frozen_at
    old_ones k d = rw (frozen_row j n i h g)
        (by_pick (λ (r : Receipt). one_if (is_frozen_for k r.state) ≤ one_if (frozen_at l k i)) (newly c seller u l i) (λ e. rw (ne_eqb j k (λ q. d (sym q))) (omega arith)) (λ e. omega arith))

  -- for match j of the seller, which is paired, has u units or more and had no receipt frozen for it
  pub frozen_sound : {n m : ℕ} {ms : List Match} {board : Bool} {count : ℕ} (j : ℕ) → j < m → (get_or ms j blank_match).stage ≡ Stage.Paired → (get_or ms j blank_match).seller ≡ seller
      → u ≤ (get_or ms j blank_match).units → NoneFrozen count l j → ReceiptTable n m ms board count l → ReceiptTable n m ms board count (frozen_table j count)
  frozen_sound {n} {m} {ms} {board} {count} j q p o v z t =
      let h : count ≤ length l = omega (arith, t.size, t.few) in
      record {
        size = (froze_all j count h).size ∙ t.size;
        few = t.few;
        none = t.none;
        rows = λ i g. rw (frozen_row j count i h g) (by_pick (SoundReceipt n m ms) (newly c seller u l i)
            (λ e. record {
              owner_there = (t.rows i g).owner_there;
              frozen_there = λ k d. let y : j ≡ k = cc in omega arith;
              frozen_stage = λ k d. let y : j ≡ k = cc in rw (← y) (rw p);
              frozen_seller = λ k d. let y : j ≡ k = cc in rw (← y) ((newly_free i e).owner ∙ sym o);
            })
            (λ e. t.rows i g));
        no_more = λ k g. by_eq k j
            (λ e. rw e (omega (arith, newly_count count, tally_most (frozen_at (frozen_table j count) j) (newly c seller u l) count 0 (λ i a b. new_ones j count i h (omega arith) (z i (omega arith))))))
            (λ e. omega (arith, t.no_more k g, tally_most (frozen_at (frozen_table j count) k) (frozen_at l k) count 0 (λ i a b. old_ones j count i h (omega arith) k e)));
      }
