-- Several vessels to a match, the statements, in the words of document 02, Job 11. Assumes nothing.
use Rattle.std.specs.Prelude.{◌≡◌, true, false, not, List, [], ◌∷◌, ◌++◌, ℕ, ◌+◌, ◌-◌, ◌*◌, ◌≤◌, ◌<◌, ltb, leb, eqb, length}
use Rattle.heats.specs.HeatTables.{IsHeatTable}
use Rattle.coal.specs.Choice.{pick}
use Rattle.coal.specs.declared.Weighed.{Weighed}
use Rattle.coal.specs.Coal.{coal_price, coal_weight, amount}
use Rattle.book.specs.Types.{Sample, Stage, Match, Book, Answer, Outcome, Call}
use Rattle.book.specs.Rows.{heat_value, is_prepaid}
use Rattle.book.specs.Tables.{match_at}
use Rattle.book.specs.Answers.{refuse_if, accept, is_accepted}
use Rattle.book.specs.Opening.{opening}
use Rattle.book.specs.Settlement.{value, first_part, weight_due, vessel_amount, measured, measure}
use Rattle.book.specs.Entries.{Entry, measure_entries, entries}
use Rattle.book.specs.Calls.{step}
use Rattle.book.specs.Lists.{after, accepts, Reached}

-- ---- a match loaded in one vessel

-- what the weight rule gives for a whole match: "D = units × T × 1,000 kg", W and M as measured
abbrev pub whole_weight : Book → Match → (w m : ℕ) → Weighed
whole_weight b c w m = coal_weight (c.units * b.tonnes * 1_000) w m

-- "amount B" of it
unfoldable pub whole_amount : Book → Match → (w q m s f a : ℕ) → ℕ
whole_amount b c w q m s f a = amount (coal_price b.heats c.price (heat_value c.heat) q s f a) (whole_weight b c w m).settled

-- Measure in the words of document 01, of a whole match. It is no call of the book: it stands here for what Measure of the one vessel of a match is to agree with.
unfoldable pub measure_whole : Book → (j w q m s f a : ℕ) → Outcome
measure_whole b j w q m s f a =
    refuse_if (not b.board) 4 b
    (refuse_if (leb b.match_count j) 21 b
    (refuse_if (not (is_prepaid (match_at b j).stage)) 22 b
    (refuse_if (ltb 40_000_000_000 w) 24 b
    (refuse_if (ltb 10_000 q) 24 b
    (refuse_if (ltb 10_000 m) 24 b
    (refuse_if (ltb 10_000 s) 24 b
    (refuse_if (ltb 10_000 f) 24 b
    (refuse_if (ltb 10_000 a) 24 b
    (accept (whole_weight b (match_at b j) w m).over (measured b j (match_at b j) (whole_amount b (match_at b j) w q m s f a)))))))))))

-- "A match loaded in one vessel is paid as it always was.": the same answer and the same book, of every reached book and every number
abbrev pub OneVessel : Type 0
OneVessel = (b : Book) → Reached b → (j : ℕ) → (match_at b j).vessels ≡ 0 → (w q m s f a : ℕ) → measure b j w q m s f a (weight_due b (match_at b j)) ≡ measure_whole b j w q m s f a

-- ---- up to eight vessels

-- a vessel, as a Measure names it
pub record Vessel : Type 0 where
  pub sample : Sample
  pub due : ℕ

-- the Measures of match j, one vessel after the other
abbrev pub measures : ℕ → List Vessel → List Call
measures j [] = []
measures j (v ∷ vs) = Call.Measure j v.sample v.due ∷ measures j vs

-- "the dues", added up
abbrev pub dues : List Vessel → ℕ
dues [] = 0
dues (v ∷ vs) = v.due + dues vs

-- "W kg 0..40,000,000,000"; "these five 0..10,000"; and a due weight that is not zero
pub record InRange (v : Vessel) : Type 0 where
  pub weight : v.sample.weight ≤ 40_000_000_000
  pub heat : v.sample.quality.heat ≤ 10_000
  pub moisture : v.sample.moisture ≤ 10_000
  pub sulphur : v.sample.quality.sulphur ≤ 10_000
  pub volatiles : v.sample.quality.volatiles ≤ 10_000
  pub ash : v.sample.quality.ash ≤ 10_000
  pub some_due : 0 < v.due

abbrev pub EachInRange : List Vessel → Type 0
EachInRange [] = Unit {0}
EachInRange (v ∷ vs) = InRange v × EachInRange vs

-- each is accepted, and carries its own kilograms over: "Each vessel's .. kilograms over (Job 2) .. follow the rules as they now stand with its due weight for D"
abbrev pub AllAccepted : Book → ℕ → List Vessel → Type 0
AllAccepted b j [] = Unit {0}
AllAccepted b j (v ∷ vs) = ((step b (Call.Measure j v.sample v.due)).answer ≡ Answer.Accepted (v.sample.weight - (v.due + 500_000))) × AllAccepted (step b (Call.Measure j v.sample v.due)).book j vs

-- "A board match may be loaded on up to eight vessels.": on any, one to eight, whose dues "add up to D"; the last one settles the match
abbrev pub UpToEight : Type 0
UpToEight = (b : Book) → Reached b → (j : ℕ) → j < b.match_count → (match_at b j).stage ≡ Stage.Prepaid → (match_at b j).vessels ≡ 0
    → (vs : List Vessel) → EachInRange vs → length vs ≤ 8 → dues vs ≡ weight_due b (match_at b j)
    → AllAccepted b j vs × ((match_at (after b (measures j vs)) j).stage ≡ Stage.Held)

-- ---- the vessels of a match over a list of calls, added up from its accepted Measures and not read from the book

-- f of the book just before a Measure of match j, of its measured values and its due weight; nothing of any other call
unfoldable pub of_measure : {A : Type 0} → A → (Book → Sample → ℕ → A) → ℕ → Book → Call → A
of_measure nothing f j b (Call.Join residence fitness) = nothing
of_measure nothing f j b (Call.Deposit k x) = nothing
of_measure nothing f j b (Call.Withdraw k x) = nothing
of_measure nothing f j b (Call.Trade buyer seller u) = nothing
of_measure nothing f j b (Call.Lodge owner class) = nothing
of_measure nothing f j b (Call.Strike owner i) = nothing
of_measure nothing f j b (Call.Declare k h) = nothing
of_measure nothing f j b (Call.Offer seller u) = nothing
of_measure nothing f j b (Call.Retract seller) = nothing
of_measure nothing f j b (Call.Take buyer seller) = nothing
of_measure nothing f j b (Call.Day p) = nothing
of_measure nothing f j b (Call.Close budget) = nothing
of_measure nothing f j b (Call.Pay i) = nothing
of_measure nothing f j b (Call.Measure i x d) = pick (eqb i j) (f b x d) nothing
of_measure nothing f j b (Call.Invoice i) = nothing
of_measure nothing f j b (Call.Terminate i party) = nothing
of_measure nothing f j b (Call.HandOver i) = nothing
of_measure nothing f j b (Call.Auction i winner x) = nothing

unfoldable pub over_measures : (Book → Sample → ℕ → ℕ) → ℕ → Book → List Call → ℕ
over_measures f j b [] = 0
over_measures f j b (c ∷ cs) = pick (accepts b c) (of_measure 0 f j b c) 0 + over_measures f j (step b c).book cs

-- how many vessels of match j are measured
abbrev pub vessels_measured : ℕ → Book → List Call → ℕ
vessels_measured j b cs = over_measures (λ e x d. 1) j b cs

-- their due kilograms
abbrev pub dues_measured : ℕ → Book → List Call → ℕ
dues_measured j b cs = over_measures (λ e x d. d) j b cs

-- "Each vessel's .. amount follow the rules as they now stand with its due weight for D": of a vessel of match j, in fen, rounded by itself
abbrev pub amount_of : ℕ → Book → Sample → ℕ → ℕ
amount_of j b x d = vessel_amount b (match_at b j) d x.weight x.quality.heat x.moisture x.quality.sulphur x.quality.volatiles x.quality.ash

-- "B, the sum"
abbrev pub amounts_measured : ℕ → Book → List Call → ℕ
amounts_measured j b cs = over_measures (amount_of j) j b cs

-- the entries of these Measures, one after the other
unfoldable pub entries_measured : ℕ → Book → List Call → List Entry
entries_measured j b [] = []
entries_measured j b (c ∷ cs) = pick (accepts b c) (of_measure [] (λ e x d. entries e (Call.Measure j x d)) j b c) [] ++ entries_measured j (step b c).book cs

-- what holds of match j after a list of calls from a fresh book b, with e the book after the list
pub record Vessels (b : Book) (cs : List Call) (e : Book) (j : ℕ) : Type 0 where
  -- "A board match may be loaded on up to eight vessels."
  pub at_most_eight : vessels_measured j b cs ≤ 8
  -- "The match stays prepaid until the dues add up to D": a prepaid one is short of it, and V is still held
  pub short : (match_at e j).stage ≡ Stage.Prepaid → dues_measured j b cs < weight_due e (match_at e j)
  pub value_held : (match_at e j).stage ≡ Stage.Prepaid → (match_at e j).held ≡ value e (match_at e j)
  -- "its amount counts towards B": what is recorded of a prepaid match is all of its vessels
  pub recorded : (match_at e j).stage ≡ Stage.Prepaid → (match_at e j).vessels ≡ vessels_measured j b cs
  pub loaded : (match_at e j).stage ≡ Stage.Prepaid → (match_at e j).loaded ≡ dues_measured j b cs
  pub counted : (match_at e j).stage ≡ Stage.Prepaid → (match_at e j).counted ≡ amounts_measured j b cs
  -- and no money has moved for them
  pub none_paid : (match_at e j).stage ≡ Stage.Prepaid → entries_measured j b cs ≡ []
  -- "until the dues add up to D; then B, the sum, is paid as before": "buyer gets V back and pays B; seller gets 80% of B, down; the rest is held"
  pub added_up : (match_at e j).stage ≡ Stage.Held → 0 < vessels_measured j b cs → dues_measured j b cs ≡ weight_due e (match_at e j)
  pub sum_paid : (match_at e j).stage ≡ Stage.Held → 0 < vessels_measured j b cs → entries_measured j b cs ≡ measure_entries e (match_at e j) (amounts_measured j b cs)
  pub rest_held : (match_at e j).stage ≡ Stage.Held → 0 < vessels_measured j b cs → (match_at e j).held ≡ amounts_measured j b cs - first_part (amounts_measured j b cs)
  -- "Terminate after a first vessel drops the vessels recorded.": no match has any but a prepaid one
  pub dropped : is_prepaid (match_at e j).stage ≡ false → ((match_at e j).vessels ≡ 0) × ((match_at e j).loaded ≡ 0) × ((match_at e j).counted ≡ 0)

-- of every match after every list of calls from the book of any accepted opening, with any heat table
abbrev pub EachVessels : Type 0
EachVessels = (heats : List ℕ) → IsHeatTable heats → (kind t r p : ℕ) → is_accepted (opening heats kind t r p).answer ≡ true → (cs : List Call)
    → (j : ℕ) → j < (after (opening heats kind t r p).book cs).match_count → Vessels (opening heats kind t r p).book cs (after (opening heats kind t r p).book cs) j
