-- What it is to print. Each who prints asks its own room and says how far it went: what is left at a call is arithmetic. Assumes nothing.
use Rattle.std.specs.Prelude.{◌≡◌, List, ℕ, ◌+◌, ◌<◌, ◌≤◌, length, get_or}
use Rattle.text.specs.Print.{Put}
use Rattle.text.specs.declared.print.Printer.{Printer}

-- every row of a table fits the form, at its place; d stands past the end
abbrev pub AllFit : {A : Type 0} → (ℕ → A → Type 0) → A → List A → Type 0
AllFit fits d rows = (k : ℕ) → k < length rows → fits k (get_or rows k d)

-- the printer's buffer has room for so many bytes from its place on
abbrev pub HasRoom : Printer → ℕ → Type 0
HasRoom p n = p.at + n ≤ length p.out.now

-- the printer wrote the bytes at its place, in the same buffer, whose other bytes stay
pub record Prints (before after : Printer) (bytes : List ℕ) : Type 0 where
  pub same : after.out.ghost_name ≡ before.out.ghost_name
  pub long : length after.out.now ≡ length before.out.now
  pub put : Put before.out.now after.out.now before.at after.at bytes
