-- What the code of a call asks of a reached book, to the number what the code asks: rules of `search calls`. Assumes nothing.
use Rattle.std.specs.Prelude.{◌≡◌, List, Result, Ok, ℕ, ◌+◌, ◌*◌, ◌≤◌, ◌<◌, nat_abs}
use Rattle.std.proofs.Common.{ap, refl, arith, rules, le-ltb, lt-ltb, le-leb, eq-eqb, ne_eqb, Fits}
use Rattle.std.proofs.lemmas.Bool.{lt-leb}
use Rattle.std.specs.Int.{w64}
use Rattle.heats.specs.HeatTables.{IsHeatTable}
use Rattle.book.specs.declared.tables.Book.{Book}
use Rattle.book.specs.Tables.{account_at, match_at}
use Rattle.book.specs.declared.calls.Call.{Call}
use Rattle.book.specs.Outcomes.{Outcome}
use Rattle.book.specs.declared.refusals.Refusal.{Refusal}
use Rattle.book.specs.Answers.{accept, outcome}
use Rattle.book.specs.Calls.{step}
use Rattle.book.specs.Opening.{opening}
use Rattle.book.specs.Lists.{Reached, opened, called}
use Rattle.book.proofs.laws.Sound.{Sound}
use Rattle.book.proofs.laws.Reaching.{sound}

-- what an accepted opening makes is reached
pub begun : {b : Book} (heats : List ℕ) → IsHeatTable heats → (kind t r p : ℕ) → accept 0 b ≡ opening heats kind t r p → Reached b
begun heats s kind t r p e = rw (ap (λ (o : Outcome). o.book) e) (opened heats s kind t r p (rw (← e) refl))

-- what a call leaves is reached, accepted or refused
pub left_by : {b b' : Book} (r : Result ℕ Refusal) (c : Call) → Reached b → outcome r b' ≡ step b c → Reached b'
left_by r c h e = rw (ap (λ (o : Outcome). o.book) e) (called c h)

-- what an accepted call leaves is reached: an answer `invariant_of-month` is mostly this, with the call's name
pub kept : {b b' : Book} (n : ℕ) (c : Call) → Reached b → accept n b' ≡ step b c → Reached b'
kept n c r e = left_by (Ok n) c r e

module _ (b : Book) (r : Reached b) where
  s : Sound b
  s = sound r

  pub tonnes_small : b.tonnes ≤ 20_000
  tonnes_small = s.tables.core.terms.tonnes_few

  pub rate_small : b.rate ≤ 100
  rate_small = s.tables.core.terms.rate_few

  pub price_small : b.price ≤ 1_000_000
  price_small = s.tables.core.terms.price_few

  pub day_small : b.day ≤ 1_000
  day_small = s.tables.core.terms.day_few

  pub deposits_fit : (x : ℕ) → x ≤ 1_000_000_000_000_000 → Fits w64 (b.deposited + x)
  deposits_fit x h = record { fits = omega (arith, s.tables.core.terms.deposits_few) }

  pub cash_small : (k : ℕ) → nat_abs (account_at b k).cash ≤ 2_000_000_000_000_000_000
  cash_small k = omega (arith, s.cash_few k)

  pub accounts_few : b.account_count ≤ 32
  accounts_few = s.tables.core.accounts.few

  pub receipts_few : b.receipt_count ≤ 256
  receipts_few = s.tables.core.receipts.few

  pub matches_few : b.match_count ≤ 189
  matches_few = s.tables.matches_few

  -- a row that is there lies within its table, and its place in bytes fits a word
  pub account_there : (k : ℕ) → k < b.account_count → k < 32
  account_there k h = omega (arith, accounts_few)

  pub account_place : (k : ℕ) → k < b.account_count → Fits w64 (k * 40)
  account_place k h = record { fits = omega (arith, account_there k h) }

  -- a lot is part of its account's units
  pub newest_small : (k : ℕ) → k < b.account_count → (account_at b k).lots.newest.units ≤ (account_at b k).units
  newest_small k h = omega (arith, (s.tables.core.accounts.rows k h).in_lots.whole)

  pub receipt_there : (i : ℕ) → i < b.receipt_count → i < 256
  receipt_there i h = omega (arith, receipts_few)

  pub receipt_place : (i : ℕ) → i < b.receipt_count → Fits w64 (i * 4)
  receipt_place i h = record { fits = omega (arith, receipt_there i h) }

  pub match_there : (j : ℕ) → j < b.match_count → j < 256
  match_there j h = omega (arith, matches_few)

  pub match_place : (j : ℕ) → j < b.match_count → Fits w64 (j * 40)
  match_place j h = record { fits = omega (arith, match_there j h) }

  pub buyer_there : (j : ℕ) → j < b.match_count → (match_at b j).buyer < 32
  buyer_there j h = account_there _ (s.tables.core.matches.rows j h).buyer_there

  pub seller_there : (j : ℕ) → j < b.match_count → (match_at b j).seller < 32
  seller_there j h = account_there _ (s.tables.core.matches.rows j h).seller_there

  pub held_small : (j : ℕ) → j < b.match_count → (match_at b j).held ≤ 1_000_000_000_000_000
  held_small j h = omega (arith, (s.tables.core.matches.rows j h).held_few)

  pub match_units_small : (j : ℕ) → j < b.match_count → (match_at b j).units ≤ 1_000
  match_units_small j h = (s.tables.core.matches.rows j h).few

  pub match_price_small : (j : ℕ) → j < b.match_count → (match_at b j).price ≤ 1_000_000
  match_price_small j h = (s.tables.core.matches.rows j h).price_high

pub ruleset calls = (account_there, account_place, receipt_there, receipt_place, match_there, match_place, buyer_there, seller_there, held_small, match_units_small, match_price_small, tonnes_small, rate_small, price_small, day_small, deposits_fit, cash_small, accounts_few, receipts_few, matches_few, le-ltb, lt-ltb, le-leb, lt-leb, eq-eqb, ne_eqb, rules)
