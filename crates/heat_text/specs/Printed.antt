-- Document 02, Job 9: the heat table as it is printed. Assumes nothing.
use Rattle.std.specs.Prelude.{List, ℕ, get_or}
use Rattle.heats.specs.Numerators.{heat_table}
use Rattle.text.specs.Print.{digits}
use Rattle.text.specs.Ledger.{each}
use Rattle.text.specs.Page.{line}

-- "one decimal number to a line": entry k of a table
unfoldable pub entry_line : List ℕ → ℕ → List ℕ
entry_line l k = line (digits (get_or l k 0))

-- "A program prints the numerators for heats 4,300 to 6,000, 1,701 entries", "one decimal number to a line, lowest heat first"
unfoldable pub printed_table : List ℕ
printed_table = each 1_701 0 (entry_line heat_table)
