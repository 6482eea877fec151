-- Every call keeps the tables sound, so those of every reached book are. By cases on the answer, one lemma a call. Assumes nothing.
use Rattle.std.specs.Prelude.{List, [], ◌∷◌}
use Rattle.book.specs.Types.{Book, Outcome, Call}
use Rattle.book.specs.Calls.{step}
use Rattle.book.specs.Lists.{Reached, opened, called, after}
use Rattle.book.proofs.laws.Answered.{Answered, answered}
use Rattle.book.proofs.laws.Sound.{SoundTables}
use Rattle.book.proofs.laws.Settling.{settlement_tables, loads_tables, pay_settles, measure_loads, invoice_settles, terminate_settles, hand_over_settles, auction_settles}
use Rattle.book.proofs.laws.Calls.{opening_tables, join_tables, deposit_tables, withdraw_tables, trade_tables, lodge_tables, strike_tables, declare_tables, offer_tables, retract_tables, day_tables}
use Rattle.book.proofs.laws.Taking.{take_tables, close_tables}

sound_tables : {b : Book} {c : Call} {o : Outcome} → Answered b c o → SoundTables b → SoundTables o.book
sound_tables (Answered.refused n p) r = r
sound_tables (Answered.joins g) r = join_tables r g
sound_tables (Answered.deposits g) r = deposit_tables r g
sound_tables (Answered.withdraws g) r = withdraw_tables r g
sound_tables (Answered.trades g) r = trade_tables r g
sound_tables (Answered.lodges g) r = lodge_tables r g
sound_tables (Answered.strikes g) r = strike_tables r g
sound_tables (Answered.declares g) r = declare_tables r g
sound_tables (Answered.offers g) r = offer_tables r g
sound_tables (Answered.retracts g) r = retract_tables r g
sound_tables (Answered.takes g) r = take_tables r g
sound_tables (Answered.days g) r = day_tables r g
sound_tables (Answered.closes g) r = close_tables r g
sound_tables {b} (Answered.pays {j = j} g) r = settlement_tables (pay_settles b r j g.there g.paired) r
sound_tables {b} (Answered.measures {j = j} {w = w} {q = q} {m = m} {s = s} {f = f} {a = a} {d = d} g) r = loads_tables (measure_loads b r j g.there g.prepaid d w q m s f a g.due) r
sound_tables {b} (Answered.invoices {j = j} g) r = settlement_tables (invoice_settles b r j g.there g.in_hold) r
sound_tables {b} (Answered.terminates {j = j} {party = party} g) r = settlement_tables (terminate_settles b r j g.there g.prepaid party) r
sound_tables {b} (Answered.hands_over {j = j} g) r = settlement_tables (hand_over_settles b r j g.there g.funded) r
sound_tables {b} (Answered.auctions {j = j} {winner = k} {x = x} g) r = settlement_tables (auction_settles b r j g.there g.awaiting k x g.winner_there g.few) r

pub step_tables : (b : Book) (c : Call) → SoundTables b → SoundTables (step b c).book
step_tables b c r = sound_tables (answered b c) r

pub after_tables : (b : Book) (cs : List Call) → SoundTables b → SoundTables (after b cs)
unfolding after
after_tables b [] r = r
after_tables b (c ∷ cs) r = after_tables (step b c).book cs (step_tables b c r)

pub after_reached : (b : Book) (cs : List Call) → Reached b → Reached (after b cs)
unfolding after
after_reached b [] h = h
after_reached b (c ∷ cs) h = after_reached (step b c).book cs (called c h)

pub reached_tables : {b : Book} → Reached b → SoundTables b
reached_tables (opened heats s kind t r p e) = opening_tables heats s kind t r p
reached_tables (called {b = b} c h) = step_tables b c (reached_tables h)
