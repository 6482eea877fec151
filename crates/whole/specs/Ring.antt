-- `simp ring` proves equations of sums and differences over variables in ℤ: each side becomes one difference `p ⊖ n`, the two are
-- compared crosswise, `p + m ≡ q + n`, and the sums are sorted. Assumes nothing.
use Rattle.std.specs.Prelude.{◌≡◌, ◌↔◌, ℤ, pos, neg_ℤ, ◌+ℤ◌, ◌-ℤ◌}
use Rattle.std.proofs.Common.{sym, ap, ◌∙◌, add_comm, add_assoc, zero-add, add-zero, arith}
use Rattle.std.proofs.Math.Nat.{add_left_comm}
use Rattle.std.proofs.Math.IntN.{+ℤ_assoc, +ℤ_comm, +ℤ_idr, +ℤ_idl}
use Rattle.whole.specs.Whole.{net_of, net_neg, net_add, net_same}

infixl 6 ◌⊖◌
-- a difference that does not compute
unfoldable pub ◌⊖◌ : ℤ → ℤ → ℤ
a ⊖ b = a -ℤ b

pub left_comm : (a b c : ℤ) → a +ℤ (b +ℤ c) ≡ b +ℤ (a +ℤ c)
left_comm a b c = sym (+ℤ_assoc a b c) ∙ rw (+ℤ_comm a b) (+ℤ_assoc b a c)

pub neg_out : (b : ℤ) → neg_ℤ b ≡ pos 0 ⊖ b
unfolding ◌⊖◌
neg_out b = sym (+ℤ_idl (neg_ℤ b))

pub add_out : (p n q m : ℤ) → (p ⊖ n) +ℤ (q ⊖ m) ≡ (p +ℤ q) ⊖ (n +ℤ m)
unfolding ◌⊖◌
add_out p n q m = net_same (net_add (net_add (net_of p) (net_neg (net_of n))) (net_add (net_of q) (net_neg (net_of m)))) (net_add (net_add (net_of p) (net_of q)) (net_neg (net_add (net_of n) (net_of m)))) (omega arith)

pub add_out_l : (p n q : ℤ) → (p ⊖ n) +ℤ q ≡ (p +ℤ q) ⊖ n
unfolding ◌⊖◌
add_out_l p n q = net_same (net_add (net_add (net_of p) (net_neg (net_of n))) (net_of q)) (net_add (net_add (net_of p) (net_of q)) (net_neg (net_of n))) (omega arith)

pub add_out_r : (p q m : ℤ) → p +ℤ (q ⊖ m) ≡ (p +ℤ q) ⊖ m
unfolding ◌⊖◌
add_out_r p q m = sym (+ℤ_assoc p q (neg_ℤ m))

pub out_out_l : (p n m : ℤ) → (p ⊖ n) ⊖ m ≡ p ⊖ (n +ℤ m)
unfolding ◌⊖◌
out_out_l p n m = net_same (net_add (net_add (net_of p) (net_neg (net_of n))) (net_neg (net_of m))) (net_add (net_of p) (net_neg (net_add (net_of n) (net_of m)))) (omega arith)

pub out_out_r : (p q m : ℤ) → p ⊖ (q ⊖ m) ≡ (p +ℤ m) ⊖ q
unfolding ◌⊖◌
out_out_r p q m = net_same (net_add (net_of p) (net_neg (net_add (net_of q) (net_neg (net_of m))))) (net_add (net_add (net_of p) (net_of m)) (net_neg (net_of q))) (omega arith)

cancel : (p n : ℤ) → (p ⊖ n) +ℤ n ≡ p
unfolding ◌⊖◌
cancel p n = net_same (net_add (net_add (net_of p) (net_neg (net_of n))) (net_of n)) (net_of p) (omega arith)

cancel' : (p n : ℤ) → (p +ℤ n) ⊖ n ≡ p
unfolding ◌⊖◌
cancel' p n = net_same (net_add (net_add (net_of p) (net_of n)) (net_neg (net_of n))) (net_of p) (omega arith)

pub cross_l : (p n q : ℤ) → (p ⊖ n ≡ q) ↔ (p ≡ q +ℤ n)
cross_l p n q = ((λ e. sym (cancel p n) ∙ ap (λ z. z +ℤ n) e), (λ e. ap (λ z. z ⊖ n) e ∙ cancel' q n))

pub cross_r : (p q m : ℤ) → (p ≡ q ⊖ m) ↔ (p +ℤ m ≡ q)
cross_r p q m = ((λ e. ap (λ z. z +ℤ m) e ∙ cancel q m), (λ e. sym (cancel' p m) ∙ ap (λ z. z ⊖ m) e))

pub ruleset ring = (neg_out, add_out, add_out_l, add_out_r, out_out_l, out_out_r, cross_l, cross_r, +ℤ_assoc, +ℤ_comm, left_comm, +ℤ_idr, +ℤ_idl, zero-add, add-zero, add_assoc, add_comm, add_left_comm)
