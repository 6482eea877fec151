-- Demand 3, the money: over every list of calls from an accepted opening, the cash of all accounts, the money held and the fund are what was
-- deposited less what was withdrawn, and each account's cash is the sum of its entries. By cases on the six changes, then over the list.
-- Assumes nothing.
use Rattle.std.specs.Prelude.{◌≡◌, refl, Bool, true, List, [], ◌∷◌, ℕ, ◌+◌, ℤ, neg_ℤ, ◌+ℤ◌, ◌-ℤ◌}
use Rattle.std.proofs.Common.{sym, ap, ◌∙◌, arith}
use Rattle.std.proofs.Math.IntN.{pos, +ℤ_idr, +ℤ_idl, +ℤ_assoc}
use Rattle.coal.specs.Choice.{pick}
use Rattle.whole.specs.Ring.{ring}
use Rattle.heats.specs.HeatTables.{IsHeatTable}
use Rattle.book.specs.Types.{Account, Match, Book, Call}
use Rattle.book.specs.Counting.{sum, total}
use Rattle.book.specs.Rows.{blank_account}
use Rattle.book.specs.Tables.{account_at, match_at, add_account, with_deposited, pay, charge}
use Rattle.book.specs.Answers.{is_accepted}
use Rattle.book.specs.Opening.{opening}
use Rattle.book.specs.Calls.{step}
use Rattle.book.specs.Entries.{Entry, plus, minus}
use Rattle.book.specs.Lists.{after, accepts, Reached, opened, called, amounts, sum_accepted, deposits_accepted, withdrawals_accepted, entry_sum, account_entries}
use Rattle.book.specs.Demand3.{total_cash, total_held}
use Rattle.book.proofs.laws.Counting.{at_set, total_same, total_last, total_plus, total_none, total_at, at}
use Rattle.book.proofs.laws.Answered.{of_opening}
use Rattle.book.proofs.laws.Sound.{SoundTables}
use Rattle.book.proofs.laws.Posting.{Within, all_entries, posted_cash}
use Rattle.book.proofs.laws.Settling.{settlement_sum}
use Rattle.book.proofs.laws.Steps.{reached_tables}
use Rattle.book.proofs.laws.Journal.{Change, refused, kept, joined, paid_in, paid_out, settled, changed}
use Rattle.book.proofs.laws.Bound.{Bounded, bounded}

-- ---- the cash of each account, and of all

-- over all accounts, the entries of each come to all entries
total_entries : (n : ℕ) (es : List Entry) → Within n es → total n 0 (λ k. entry_sum k es) ≡ all_entries es
unfolding entry_sum all_entries
total_entries n [] w = total_none (λ k. pos 0) n 0 (λ j p q. refl)
total_entries n (e ∷ es) w =
    total_plus (at e.account e.amount) (λ k. entry_sum k es) n 0
    ∙ rw (total_at n 0 e.account e.amount (omega arith) (omega (arith, w.0)), total_entries n es w.1) refl

total_moved : (b e : Book) (es : List Entry) → e.account_count ≡ b.account_count → ((k : ℕ) → (account_at e k).cash ≡ (account_at b k).cash +ℤ entry_sum k es) → Within b.account_count es → total_cash e ≡ total_cash b +ℤ all_entries es
unfolding total_cash
total_moved b e es c h w =
    ap (λ (n : ℕ). total n 0 (λ k. (account_at e k).cash)) c
    ∙ total_same (λ k. (account_at e k).cash) (λ k. (account_at b k).cash +ℤ entry_sum k es) b.account_count 0 (λ k p q. h k)
    ∙ total_plus (λ k. (account_at b k).cash) (λ k. entry_sum k es) b.account_count 0
    ∙ ap (λ (z : ℤ). total b.account_count 0 (λ k. (account_at b k).cash) +ℤ z) (total_entries b.account_count es w)

-- an account more, where all cash is as it was and the new account has none
total_joined : (b e : Book) → e.account_count ≡ b.account_count + 1 → ((k : ℕ) → (account_at e k).cash ≡ (account_at b k).cash +ℤ pos 0) → (account_at b b.account_count).cash ≡ pos 0 → total_cash e ≡ total_cash b
unfolding total_cash
total_joined b e c h z =
    ap (λ (n : ℕ). total n 0 (λ k. (account_at e k).cash)) c
    ∙ total_same (λ k. (account_at e k).cash) (λ k. (account_at b k).cash) (b.account_count + 1) 0 (λ k p q. h k ∙ +ℤ_idr (account_at b k).cash)
    ∙ total_last (λ k. (account_at b k).cash) b.account_count
    ∙ rw z (+ℤ_idr (total b.account_count 0 (λ k. (account_at b k).cash)))

change_cash : (b : Book) → Bounded b → {es : List Entry} {d w : ℕ} {t : Bool} {e : Book} → Change b es d w t e → (k : ℕ) → (account_at e k).cash ≡ (account_at b k).cash +ℤ pick t (entry_sum k es) (pos 0)
unfolding entry_sum
change_cash b z refused k = sym (+ℤ_idr (account_at b k).cash)
change_cash b z (kept h) k = h.cash k ∙ sym (+ℤ_idr (account_at b k).cash)
change_cash b z (joined a h) k =
    at_set (λ (x : Account). x.cash ≡ (account_at b k).cash) b.accounts b.account_count k a blank_account (λ q. h ∙ sym (z.blank k (omega arith))) refl
    ∙ sym (+ℤ_idr (account_at b k).cash)
change_cash b z (paid_in i x h p) k = posted_cash p k
change_cash b z (paid_out i x h n p) k = posted_cash p k
change_cash b z (settled s) k = posted_cash s.posted k

-- ---- a call

-- cash of all accounts + all money held for matches + the fund
unfoldable all_money : Book → ℤ
all_money b = total_cash b +ℤ pos (total_held b) +ℤ pos b.fund

in_change : (t h f : ℤ) (x : ℕ) → t +ℤ (pos x +ℤ pos 0) +ℤ h +ℤ f ≡ t +ℤ h +ℤ f +ℤ (pos x -ℤ pos 0)
in_change t h f x = simp ring

out_change : (t h f : ℤ) (x : ℕ) → t +ℤ (neg_ℤ (pos x) +ℤ pos 0) +ℤ h +ℤ f ≡ t +ℤ h +ℤ f +ℤ (pos 0 -ℤ pos x)
out_change t h f x = simp ring

shifted : (h i x y : ℕ) → h + i ≡ x + y → pos x ≡ pos h +ℤ pos i -ℤ pos y
shifted h i x y e = go ∙ ap (λ (n : ℕ). pos n -ℤ pos y) (sym e)
  where
    go : pos x ≡ pos x +ℤ pos y -ℤ pos y
    go = simp ring

-- a match held i and holds y, all matches held x and hold h; the entries, z, and what the fund gets, g, balance that
settled_change : (t z : ℤ) (f g h i x y : ℕ) → h + i ≡ x + y → z +ℤ pos y +ℤ pos g ≡ pos i → t +ℤ z +ℤ pos h +ℤ pos (f + g) ≡ t +ℤ pos x +ℤ pos f +ℤ (pos 0 -ℤ pos 0)
settled_change t z f g h i x y e m =
    go
    ∙ ap (λ (w : ℤ). t +ℤ (pos h +ℤ w -ℤ pos y) +ℤ pos f +ℤ (pos 0 -ℤ pos 0)) m
    ∙ ap (λ (w : ℤ). t +ℤ w +ℤ pos f +ℤ (pos 0 -ℤ pos 0)) (sym (shifted h i x y e))
  where
    go : t +ℤ z +ℤ pos h +ℤ pos (f + g) ≡ t +ℤ (pos h +ℤ (z +ℤ pos y +ℤ pos g) -ℤ pos y) +ℤ pos f +ℤ (pos 0 -ℤ pos 0)
    go = simp ring

change_money : (b : Book) → SoundTables b → Bounded b → {es : List Entry} {d w : ℕ} {t : Bool} {e : Book} → Change b es d w t e → all_money e ≡ all_money b +ℤ (pos (pick t d 0) -ℤ pos (pick t w 0))
unfolding all_money pay charge total_held all_entries entry_sum
change_money b r z refused = simp ring
change_money b r z (kept {e = e} h) =
    rw (total_moved b e [] h.count (change_cash b z (kept h)) tt, h.held, h.fund) (simp ring)
change_money b r z (joined a h) =
    let none : all_money b ≡ all_money b +ℤ (pos 0 -ℤ pos 0) = simp ring in
    ap (λ (t : ℤ). t +ℤ pos (total_held b) +ℤ pos b.fund) (total_joined b (add_account b a) refl (change_cash b z (joined a h)) (z.blank b.account_count (omega arith))) ∙ none
change_money b r z (paid_in k x h p) =
    ap (λ (t : ℤ). t +ℤ pos (total_held b) +ℤ pos b.fund) (total_moved b (pay (with_deposited b (b.deposited + x)) k x) (plus k x ∷ []) refl (posted_cash p) (h, tt)) ∙ in_change (total_cash b) (pos (total_held b)) (pos b.fund) x
change_money b r z (paid_out k x h n p) =
    ap (λ (t : ℤ). t +ℤ pos (total_held b) +ℤ pos b.fund) (total_moved b (charge b k x) (minus k x ∷ []) refl (posted_cash p) (h, tt)) ∙ out_change (total_cash b) (pos (total_held b)) (pos b.fund) x
change_money b r z (settled {j = j} {es = es} {e = e} s) =
    rw (total_moved b e es (ap (λ (x : Book). x.account_count) s.same) (posted_cash s.posted) s.within, s.fund)
    (settled_change (total_cash b) (all_entries es) b.fund s.gained (total_held e) (match_at b j).held (total_held b) s.held (settlement_sum (λ (m : Match). m.held) s r) s.even)

-- ---- lists

one_more : (m : ℤ) (d w e v : ℕ) → m +ℤ (pos d -ℤ pos w) +ℤ (pos e -ℤ pos v) ≡ m +ℤ (pos (d + e) -ℤ pos (w + v))
one_more m d w e v = simp ring

list_money : (b : Book) (cs : List Call) → Reached b → all_money (after b cs) ≡ all_money b +ℤ (pos (deposits_accepted b cs) -ℤ pos (withdrawals_accepted b cs))
unfolding after sum_accepted
list_money b [] h = simp ring
list_money b (c ∷ cs) h =
    let r = reached_tables h in
    list_money (step b c).book cs (called c h)
    ∙ rw (change_money b r (bounded h) (changed b c r)) (one_more (all_money b) (pick (accepts b c) (amounts c).deposited 0) (pick (accepts b c) (amounts c).withdrawn 0) (deposits_accepted (step b c).book cs) (withdrawals_accepted (step b c).book cs))

list_cash : (k : ℕ) (b : Book) (cs : List Call) → Reached b → (account_at (after b cs) k).cash ≡ (account_at b k).cash +ℤ account_entries k b cs
unfolding after account_entries
list_cash k b [] h = sym (+ℤ_idr (account_at b k).cash)
list_cash k b (c ∷ cs) h =
    list_cash k (step b c).book cs (called c h)
    ∙ rw (change_cash b (bounded h) (changed b c (reached_tables h)) k) (+ℤ_assoc (account_at b k).cash _ _)

opening_money : (heats : List ℕ) → IsHeatTable heats → (kind t r p : ℕ) → all_money (opening heats kind t r p).book ≡ pos 0
unfolding all_money total_cash total_held total sum
opening_money = of_opening (λ (b : Book). all_money b ≡ pos 0) (λ heats s board t r p g₁ g₂ g₃ g₄ g₅. refl)

opening_none : (heats : List ℕ) → IsHeatTable heats → (kind t r p : ℕ) → (opening heats kind t r p).book.account_count ≡ 0
opening_none = of_opening (λ (b : Book). b.account_count ≡ 0) (λ heats s board t r p g₁ g₂ g₃ g₄ g₅. refl)

module _ (heats : List ℕ) (s : IsHeatTable heats) (kind t r p : ℕ) (a : is_accepted (opening heats kind t r p).answer ≡ true) (cs : List Call) where
  -- cash of all accounts + all money held for matches + the fund = deposits accepted less cash withdrawals accepted
  pub money : total_cash (after (opening heats kind t r p).book cs) +ℤ pos (total_held (after (opening heats kind t r p).book cs)) +ℤ pos (after (opening heats kind t r p).book cs).fund ≡ pos (deposits_accepted (opening heats kind t r p).book cs) -ℤ pos (withdrawals_accepted (opening heats kind t r p).book cs)
  unfolding all_money
  money =
      let b = (opening heats kind t r p).book in
      list_money b cs (opened heats s kind t r p a) ∙ rw (opening_money heats s kind t r p) (+ℤ_idl (pos (deposits_accepted b cs) -ℤ pos (withdrawals_accepted b cs)))

  -- each account's cash is the sum of its entries in the list's accepted calls
  pub entered : (k : ℕ) → (account_at (after (opening heats kind t r p).book cs) k).cash ≡ account_entries k (opening heats kind t r p).book cs
  entered k =
      let b = (opening heats kind t r p).book in
      let h = opened heats s kind t r p a in
      list_cash k b cs h ∙ rw ((bounded h).blank k (omega (arith, opening_none heats s kind t r p))) (+ℤ_idl (account_entries k b cs))
