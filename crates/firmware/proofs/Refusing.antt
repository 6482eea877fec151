-- A refused heat table gives `no 31`. Assumes nothing.
use Rattle.std.specs.Prelude.{◌≡◌, List, ℕ, Err}
use Rattle.std.proofs.Common.{sym, ap, ◌∙◌}
use mathlib.Core.Bool.{true≢false}
use Rattle.heats.specs.Numerators.{heat_table}
use Rattle.book.specs.Outcomes.{Answer}
use Rattle.book.specs.declared.refusals.Refusal.{Refusal}
use Rattle.book.specs.Codes.{refusal_number}
use Rattle.book.specs.Answers.{is_accepted}
use Rattle.book.proofs.laws.Counting.{by_pick}
use Rattle.loading.specs.Loading.{Loading, is_bad, load, loading}
use Rattle.text.specs.Print.{answer_line}
use Rattle.text.specs.Page.{lent}
use Rattle.session.specs.Paging.{lent_count}
use Rattle.firmware.specs.Served.{or_0, ByTable}

-- a loading is refused with no other number
only_31 : (s former : List ℕ) (n : ℕ) → (load s former).answer ≡ Answer.Refused n → n ≡ 31
unfolding load
only_31 s former n = by_pick (λ (l : Loading). l.answer ≡ Answer.Refused n → n ≡ 31) (is_bad s) (λ _ e. cc) (λ _ e. absurd (true≢false (ap is_accepted e)))

module _ {Serves : List ℕ → Type 0} {table before out heats : List ℕ} {r : ℕ} (e : Refusal) (q : loading (Err e) heats ≡ load table heat_table) where
  -- who lends that refusal's line has told it
  pub refused_table : r ≡ or_0 (lent_count (answer_line (Answer.Refused (refusal_number e))) before) → out ≡ lent (answer_line (Answer.Refused (refusal_number e))) before → ByTable Serves table before out r
  refused_table f g =
      let a : (load table heat_table).answer ≡ Answer.Refused (refusal_number e) = sym (ap (λ (l : Loading). l.answer) q) in
      let n : refusal_number e ≡ 31 = only_31 table heat_table (refusal_number e) a in
      record {
        loaded = λ h. absurd (true≢false (sym h ∙ ap is_accepted a));
        told = λ h. rw n at f;
        text = λ h. rw n at g;
      }
