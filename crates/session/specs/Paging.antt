-- The page program of document 02's Job 1: the page of the book after a session. Assumes nothing.
use Rattle.std.specs.Prelude.{◌≡◌, List, ℕ, ◌≤◌, ltb, length, take, Option, Some, None, IfSome}
use Rattle.coal.specs.Choice.{pick}
use Rattle.book.specs.Answers.{is_accepted}
use Rattle.reader.specs.Lines.{lines}
use Rattle.text.specs.Print.{answer_line}
use Rattle.text.specs.Page.{page, lent}
use Rattle.session.specs.Session.{outcome, Demanded}

-- the page of the book after a session; a refused line one's `no n`
unfoldable pub page_output : List ℕ → List ℕ → List ℕ
page_output heats s = pick (is_accepted (outcome heats s).answer) (page (outcome heats s).book) (answer_line (outcome heats s).answer)

-- the longest page: 4 + 32 + 256 + 256 lines of 41 bytes
abbrev pub page_room : ℕ
page_room = 22_468

-- how many bytes of a text are written into a lent buffer: all; none, where it is too short
unfoldable pub lent_count : List ℕ → List ℕ → Option ℕ
lent_count t before = pick (ltb (length before) (length t)) None (Some (length t))

-- the output is written into a lent buffer of any length, and r says how many bytes; demand 3 holds of the calls that led to the book
pub record Paged (heats input before out : List ℕ) (r : Option ℕ) : Type 0 where
  pub within : IfSome r (λ n. n ≤ length out)
  pub counted : IfSome r (λ n. n ≡ length (take n out))
  pub count : r ≡ lent_count (page_output heats input) before
  pub text : out ≡ lent (page_output heats input) before
  pub enough : page_room ≤ length before → r ≡ Some (length (page_output heats input))
  pub demanded : Demanded heats (lines input)
