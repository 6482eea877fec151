-- What a caller from C gets: the session's output, the page, the heat table, or the answers to a list of a factory's calls, or nothing where its buffer is too short; with the bytes of a heat table `no 31` where that is refused. Assumes nothing.
use Rattle.std.specs.Prelude.{◌≡◌, List, ℕ, ◌≤◌, ◌<◌, length, true, false, Option, Some, None}
use Rattle.heats.specs.Numerators.{heat_table}
use Rattle.book.specs.Outcomes.{Answer}
use Rattle.book.specs.Answers.{is_accepted}
use Rattle.loading.specs.Loading.{load}
use Rattle.text.specs.Print.{Put, answer_line}
use Rattle.text.specs.Page.{lent}
use Rattle.heat_text.specs.Printed.{printed_table}
use Rattle.factory_text.specs.Dispatched.{room as dispatch_room, Dispatched}
use Rattle.session.specs.Session.{room, Delivered}
use Rattle.session.specs.Paging.{lent_count, Paged}

-- of a session, with a heat table: the buffer before and after, and the number of bytes
pub record Served (heats input before out : List ℕ) (r : ℕ) : Type 0 where
  pub enough : room ≤ length before → Delivered heats input before out r
  -- too short: 0, and nothing is written
  pub short : length before < room → ((r ≡ 0) × (out ≡ before))

-- C has a number for none: 0
abbrev pub or_0 : Option ℕ → ℕ
or_0 None = 0
or_0 (Some n) = n

-- of the page, with a heat table: the buffer before and after, and the number of bytes; 0, and nothing is written, where it is too short
pub record PageServed (heats input before out : List ℕ) (r : ℕ) : Type 0 where
  pub count : Option ℕ
  pub told : r ≡ or_0 count
  pub paged : Paged heats input before out count

-- of the heat table: the buffer before and after, and the number of bytes
pub record Tabled (before out : List ℕ) (r : ℕ) : Type 0 where
  pub enough : 18_711 ≤ length before → (Put before out 0 r printed_table × (r ≡ 18_711))
  -- too short: 0, and nothing is written
  pub short : length before < 18_711 → ((r ≡ 0) × (out ≡ before))

-- of a list of a factory's calls: the buffer before and after, and the number of bytes
pub record DispatchServed (input before out : List ℕ) (r : ℕ) : Type 0 where
  pub enough : dispatch_room (length input) ≤ length before → Dispatched input before out r
  -- too short: 0, and nothing is written
  pub short : length before < dispatch_room (length input) → ((r ≡ 0) × (out ≡ before))

-- with the bytes of a port's own heat table: what is served with the table where it is loaded, else "31 .. on loading, before a book exists": `no 31`; 0, and nothing is written, where the buffer is too short for that
pub record ByTable (Serves : List ℕ → Type 0) (table before out : List ℕ) (r : ℕ) : Type 0 where
  pub loaded : is_accepted (load table heat_table).answer ≡ true → Serves (load table heat_table).heats
  pub told : is_accepted (load table heat_table).answer ≡ false → r ≡ or_0 (lent_count (answer_line (Answer.Refused 31)) before)
  pub text : is_accepted (load table heat_table).answer ≡ false → out ≡ lent (answer_line (Answer.Refused 31)) before
