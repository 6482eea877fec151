-- A factory is made; holders arrive and leave. Assumes nothing.
use Rattle.std.specs.Prelude.{cond, List, [], ◌∷◌, ◌++◌, ℕ, ltb, leb, length, remove, Result, Ok, Err}
use Rattle.factory.specs.Types.{Factory, Outcome}
use Rattle.factory.specs.Answers.{refuse_if, accept}

-- "a factory without holders"
abbrev pub fresh : ℕ → Factory
fresh daily = record { daily = daily; holders = [] }

-- "A factory loads a fixed number of units a day, 1 to 1,000"; "A daily number .. out of range is refused as 8, .. making no factory"
unfoldable pub making : ℕ → Result Factory ℕ
making daily = cond (ltb daily 1) (Err 8) (cond (ltb 1_000 daily) (Err 8) (Ok (fresh daily)))

abbrev pub with_holders : Factory → List ℕ → Factory
with_holders f l = record { daily = f.daily; holders = l }

-- "each with 0 to 1,000 units to collect", "in order of appointment"; "A .. claim out of range is refused as 8"; "33 when a thirty-third holder arrives, after 8"
unfoldable pub arrive : Factory → ℕ → Outcome
arrive f claim =
    refuse_if (ltb 1_000 claim) 8 f
    (refuse_if (leb 32 (length f.holders)) 33 f
    (accept (with_holders f (f.holders ++ claim ∷ []))))

-- "a leaver is named by its place in that order, counted from 0, later holders move up, and an empty place is refused as 6"
unfoldable pub leave : Factory → ℕ → Outcome
leave f place =
    refuse_if (leb (length f.holders) place) 6 f
    (accept (with_holders f (remove f.holders place)))
