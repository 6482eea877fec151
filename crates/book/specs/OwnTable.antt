-- A port's own heat table, the statement, in the words of document 02, Job 10: which table a book keeps, and what Measure pays by it. Assumes nothing.
use Rattle.std.specs.Prelude.{◌≡◌, true, List, ℕ, ◌*◌, ◌≤◌, ◌<◌}
use Rattle.heats.specs.HeatTables.{IsHeatTable, entry_of}
use Rattle.coal.specs.Coal.{half_even, settled_heat, less_short_heat, less_sulphur, by_sulphur, by_volatiles_or_ash, coal_weight, amount}
use Rattle.book.specs.Types.{Match, Book, Call}
use Rattle.book.specs.Rows.{heat_value}
use Rattle.book.specs.Answers.{is_accepted}
use Rattle.book.specs.Opening.{opening}
use Rattle.book.specs.Settlement.{vessel_amount}
use Rattle.book.specs.Lists.{after}

-- the amount of a vessel of a match where step 2 gives x: steps 3 to 5 of the price, and the settled weight
abbrev pub amount_from : ℕ → Match → (d w q m s f a : ℕ) → ℕ
amount_from x c d w q m s f a = amount (by_volatiles_or_ash f a (by_sulphur s (less_sulphur s (less_short_heat (heat_value c.heat) q x)))) (coal_weight d w m).settled

-- the heat that step 1 gives for a match
abbrev pub heat_of : Match → ℕ → ℕ
heat_of c q = settled_heat (heat_value c.heat) q

-- of a book that was opened with this table
pub record OwnTable (heats : List ℕ) (b : Book) : Type 0 where
  -- "Each book keeps the table it was opened with"
  pub kept : b.heats ≡ heats
  -- "With a loaded one step 2 gives P × entry / 4,950,000,000 rounded as in Job 3": for every match, every due weight and every measured value
  pub by_entry : (c : Match) (d w q m s f a : ℕ) → 4_300 ≤ heat_of c q → vessel_amount b c d w q m s f a ≡ amount_from (half_even (c.price * entry_of heats (heat_of c q)) 4_950_000_000) c d w q m s f a
  -- "Heats under 4,300 keep the formula."
  pub by_formula : (c : Match) (d w q m s f a : ℕ) → heat_of c q < 4_300 → vessel_amount b c d w q m s f a ≡ amount_from (half_even (c.price * heat_of c q * 7_687) 90_000_000) c d w q m s f a

-- after every list of calls from the book of any accepted opening with any such table, a loaded one or "Job 9's if none was loaded"
abbrev pub OwnTables : Type 0
OwnTables = (heats : List ℕ) → IsHeatTable heats → (kind t r p : ℕ) → is_accepted (opening heats kind t r p).answer ≡ true → (cs : List Call) → OwnTable heats (after (opening heats kind t r p).book cs)
