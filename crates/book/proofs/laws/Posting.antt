-- Entries posted to a table of accounts, one by one: only cash changes, and by the entries. Assumes nothing.
use Rattle.std.specs.Prelude.{◌≡◌, refl, List, [], ◌∷◌, ℕ, ◌+◌, ◌<◌, ℤ, pos, nat_abs, ◌+ℤ◌, length, get_or, set}
use Rattle.std.proofs.Common.{sym, ap, ◌∙◌, length-set, get_or-set_same, get_or-set_other, eq-eqb}
use Rattle.std.proofs.Math.IntN.{+ℤ_idr, +ℤ_assoc}
use Rattle.book.specs.Types.{Account}
use Rattle.book.specs.Rows.{blank_account, with_cash}
use Rattle.book.specs.Entries.{Entry}
use Rattle.book.specs.Lists.{entry_sum}
use Rattle.book.proofs.laws.Counting.{by_eq, at, at_other}
use Rattle.book.proofs.laws.Sound.{SoundOffer, AccountTable}

-- every entry is of an account below n
abbrev pub Within : ℕ → List Entry → Type 0
Within n [] = Unit {0}
Within n (e ∷ es) = (e.account < n) × Within n es

-- all entries, added up, and their magnitudes
unfoldable pub all_entries : List Entry → ℤ
all_entries [] = pos 0
all_entries (e ∷ es) = e.amount +ℤ all_entries es

unfoldable pub weight : List Entry → ℕ
weight [] = 0
weight (e ∷ es) = nat_abs e.amount + weight es

-- the entries es posted to table l give table m
pub record Posted (l m : List Account) (es : List Entry) : Type 0 where
  pub size : length m ≡ length l
  pub rows : (k : ℕ) → get_or m k blank_account ≡ with_cash (get_or l k blank_account) ((get_or l k blank_account).cash +ℤ entry_sum k es)

pub posted_none : (l : List Account) → Posted l l []
unfolding entry_sum
posted_none l = record { size = refl; rows = λ k. rw +ℤ_idr }

-- table l with z more at account k
abbrev pub with_more : List Account → ℕ → ℤ → List Account
with_more l k z = set l k (with_cash (get_or l k blank_account) ((get_or l k blank_account).cash +ℤ z))

more_row : (l : List Account) (k j : ℕ) (z : ℤ) → k < length l → get_or (with_more l k z) j blank_account ≡ with_cash (get_or l j blank_account) ((get_or l j blank_account).cash +ℤ at k z j)
more_row l k j z h =
    let a = with_cash (get_or l k blank_account) ((get_or l k blank_account).cash +ℤ z) in
    by_eq j k
    (λ e. rw e (rw (get_or-set_same l k a blank_account h, eq-eqb k k refl)))
    (λ e. rw (get_or-set_other l k j a blank_account e, at_other k j z (λ q. e (sym q)), +ℤ_idr))

-- an entry posted before the others
pub post : (l : List Account) {m : List Account} {es : List Entry} (k : ℕ) (z : ℤ) → k < length l → Posted (with_more l k z) m es → Posted l m (record { account = k; amount = z } ∷ es)
unfolding entry_sum
post l {es = es} k z h p = record { size = p.size ∙ simp length-set; rows = λ j. rw (p.rows j, more_row l k j z h, +ℤ_assoc) }

-- ---- what posting leaves

pub posted_cash : {l m : List Account} {es : List Entry} → Posted l m es → (k : ℕ) → (get_or m k blank_account).cash ≡ (get_or l k blank_account).cash +ℤ entry_sum k es
posted_cash p k = ap (λ (a : Account). a.cash) (p.rows k)

pub posted_accounts : {day n : ℕ} {l m : List Account} {es : List Entry} → Posted l m es → AccountTable day n l → AccountTable day n m
posted_accounts p t = record { size = p.size ∙ t.size; few = t.few; rows = λ k h. let r = t.rows k h in rw (p.rows k) (search) }

pub posted_offers : {n : ℕ} {l m : List Account} {es : List Entry} → Posted l m es → ((k : ℕ) → k < n → SoundOffer (get_or l k blank_account)) → (k : ℕ) → k < n → SoundOffer (get_or m k blank_account)
posted_offers p o k h = let r = o k h in rw (p.rows k) (search)
