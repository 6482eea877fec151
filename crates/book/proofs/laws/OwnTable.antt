-- Each book keeps the heat table it was opened with, and Measure pays by it: no call changes the table, by what a call changes. Assumes nothing.
use Rattle.std.specs.Prelude.{◌≡◌, refl, Bool, true, false, List, [], ◌∷◌, ℕ}
use Rattle.std.proofs.Common.{sym, ap, ◌∙◌}
use mathlib.Core.Bool.{true≢false}
use Rattle.coal.specs.Coal.{coal_price}
use Rattle.coal.proofs.laws.HeatTable.{by_entry, below_table}
use Rattle.book.specs.Types.{Book, Call, Outcome}
use Rattle.book.specs.Tables.{pay, charge}
use Rattle.book.specs.Answers.{refuse_if, is_accepted}
use Rattle.book.specs.Opening.{no_book, opening}
use Rattle.book.specs.Settlement.{vessel_amount}
use Rattle.book.specs.Entries.{Entry}
use Rattle.book.specs.Calls.{step}
use Rattle.book.specs.Lists.{after}
use Rattle.book.specs.OwnTable.{amount_from, heat_of, OwnTables}
use Rattle.book.proofs.laws.Sound.{SoundTables}
use Rattle.book.proofs.laws.Calls.{opening_tables}
use Rattle.book.proofs.laws.Steps.{step_tables}
use Rattle.book.proofs.laws.Journal.{Change, changed}

-- an accepted opening makes a book with the table that it is given
opened_with : (heats : List ℕ) (kind t r p : ℕ) → is_accepted (opening heats kind t r p).answer ≡ true → (opening heats kind t r p).book.heats ≡ heats
unfolding opening
opened_with heats kind t r p = search asked depth 12
  where
    asked : (c : Bool) (o : Outcome) → (is_accepted o.answer ≡ true → o.book.heats ≡ heats) → is_accepted (refuse_if c 1 no_book o).answer ≡ true → (refuse_if c 1 no_book o).book.heats ≡ heats
    asked true o g a = absurd (true≢false (sym a))
    asked false o g a = g a

unchanged : {b e : Book} {es : List Entry} {d w : ℕ} {t : Bool} → Change b es d w t e → e.heats ≡ b.heats
unfolding pay charge
unchanged Change.refused = refl
unchanged (Change.kept h) = h.heats
unchanged (Change.joined a z) = refl
unchanged (Change.paid_in k x h p) = refl
unchanged (Change.paid_out k x h l p) = refl
unchanged (Change.settled s) = ap (λ (z : Book). z.heats) s.same

-- no call changes it
pub list_keeps : (b : Book) (cs : List Call) → SoundTables b → (after b cs).heats ≡ b.heats
unfolding after
list_keeps b [] s = refl
list_keeps b (c ∷ cs) s = list_keeps (step b c).book cs (step_tables b c s) ∙ unchanged (changed b c s)

pub own_table : OwnTables
unfolding vessel_amount coal_price
own_table heats i kind t r p a cs =
    let b = (opening heats kind t r p).book in
    let e = after b cs in
    let k : e.heats ≡ heats = list_keeps b cs (opening_tables heats i kind t r p) ∙ opened_with heats kind t r p a in
    record {
      kept = k;
      by_entry = λ c d w q m s f x h. rw (k) (ap (λ (n : ℕ). amount_from n c d w q m s f x) (sym (by_entry c.price (heat_of c q) heats h)));
      by_formula = λ c d w q m s f x h. rw (k) (ap (λ (n : ℕ). amount_from n c d w q m s f x) (sym (below_table c.price (heat_of c q) heats h)));
    }
