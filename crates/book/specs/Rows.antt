-- One account, one receipt, one match: the row of an unused cell, a row with one thing changed, and what a row is asked. Assumes nothing.
use Rattle.std.specs.Prelude.{Bool, true, false, not, ◌&&◌, ◌||◌, List, [], ◌∷◌, ℕ, ◌+◌, ◌-◌, ltb, eqb, ℤ, pos, ◌+ℤ◌, ◌-ℤ◌, Option, Some, None}
use Rattle.coal.specs.Choice.{pick}
use Rattle.book.specs.Types.{Side, ReceiptState, Stage, Lot, Lots, Account, Receipt, Match}

-- ---- an unused cell: zeros and first cases, which is also what a read past a table's end gives

abbrev pub no_lot : Lot
no_lot = record { day = 0; units = 0 }

abbrev pub no_lots : Lots
no_lots = record { oldest = no_lot; second = no_lot; third = no_lot; newest = no_lot }

abbrev pub blank_account : Account
blank_account = record { cash = pos 0; units = 0; lots = no_lots; heat = None; offer = None; side = Side.Flat; overseas = false; fit = false }

abbrev pub blank_receipt : Receipt
blank_receipt = record { owner = 0; bonded = false; state = ReceiptState.Free }

abbrev pub blank_match : Match
blank_match = record { held = 0; loaded = 0; counted = 0; price = 0; units = 0; due = 0; heat = None; buyer = 0; seller = 0; stage = Stage.Paired; vessels = 0 }

-- ---- an account

abbrev pub with_cash : Account → ℤ → Account
with_cash a z = record { cash = z; units = a.units; lots = a.lots; heat = a.heat; offer = a.offer; side = a.side; overseas = a.overseas; fit = a.fit }

abbrev pub with_position : Account → Side → ℕ → Lots → Account
with_position a s u l = record { cash = a.cash; units = u; lots = l; heat = a.heat; offer = a.offer; side = s; overseas = a.overseas; fit = a.fit }

abbrev pub with_heat : Account → Option ℕ → Account
with_heat a h = record { cash = a.cash; units = a.units; lots = a.lots; heat = h; offer = a.offer; side = a.side; overseas = a.overseas; fit = a.fit }

abbrev pub with_offer : Account → Option ℕ → Account
with_offer a o = record { cash = a.cash; units = a.units; lots = a.lots; heat = a.heat; offer = o; side = a.side; overseas = a.overseas; fit = a.fit }

-- "cash up by it"
abbrev pub credited : Account → ℕ → Account
credited a x = with_cash a (a.cash +ℤ pos x)

-- "cash down by it"
abbrev pub debited : Account → ℕ → Account
debited a x = with_cash a (a.cash -ℤ pos x)

-- ---- lots (document 02, Job 5): "An account now records up to four opening days with the units of each."

-- the four places, oldest first; one with 0 units is free
abbrev pub lots_of : Account → List Lot
lots_of a = a.lots.oldest ∷ a.lots.second ∷ a.lots.third ∷ a.lots.newest ∷ []

-- u units opened on a day: on the newest lot's day they are added to that lot, else they are a new lot, in the free place of the oldest
abbrev pub lots_on : Lots → ℕ → ℕ → Lots
lots_on l u day =
    pick (eqb l.newest.day day)
    (record { oldest = l.oldest; second = l.second; third = l.third; newest = record { day = day; units = l.newest.units + u } })
    (record { oldest = l.second; second = l.third; third = l.newest; newest = record { day = day; units = u } })

-- "a trade would need a fifth opening day": the newest lot is of another day, and the oldest place is not free
abbrev pub needs_fifth : Lots → ℕ → Bool
needs_fifth l day = not (eqb l.newest.day day) && ltb 0 l.oldest.units

-- a lot with u units less; at 0 units it goes and frees its place
abbrev pub lot_off : Lot → ℕ → Lot
lot_off x u = record { day = x.day; units = x.units - u }

-- "use up the oldest first": u units less, of which each lot gives what the older ones did not
abbrev pub lots_off : Lots → ℕ → Lots
lots_off l u =
    let v = u - l.oldest.units in
    let w = v - l.second.units in
    record { oldest = lot_off l.oldest u; second = lot_off l.second v; third = lot_off l.third w; newest = lot_off l.newest (w - l.third.units) }

-- u units more on a side
abbrev pub units_on : Account → Side → ℕ → ℕ → Account
units_on a s u day = with_position a s (a.units + u) (lots_on a.lots u day)

-- u units less; "a side at 0 units becomes none"
abbrev pub units_off : Account → ℕ → Account
units_off a u = with_position a (pick (eqb (a.units - u) 0) Side.Flat a.side) (a.units - u) (lots_off a.lots u)

abbrev pub is_long : Side → Bool
is_long Side.Flat = false
is_long Side.Long = true
is_long Side.Short = false

abbrev pub is_short : Side → Bool
is_short Side.Flat = false
is_short Side.Long = false
is_short Side.Short = true

abbrev pub is_flat : Side → Bool
is_flat Side.Flat = true
is_flat Side.Long = false
is_flat Side.Short = false

-- whether a side is the one meant
abbrev pub is_on : Side → Side → Bool
is_on Side.Flat s = is_flat s
is_on Side.Long s = is_long s
is_on Side.Short s = is_short s

-- the units that an account is long, and short: 0 on another side
abbrev pub long_units : Account → ℕ
long_units a = pick (is_long a.side) a.units 0

abbrev pub short_units : Account → ℕ
short_units a = pick (is_short a.side) a.units 0

abbrev pub heat_missing : Option ℕ → Bool
heat_missing None = true
heat_missing (Some h) = false

-- the heat, where it is declared
abbrev pub heat_value : Option ℕ → ℕ
heat_value None = 0
heat_value (Some h) = h

abbrev pub offer_missing : Option ℕ → Bool
offer_missing None = true
offer_missing (Some u) = false

-- the units offered, where an offer stands
abbrev pub offer_units : Option ℕ → ℕ
offer_units None = 0
offer_units (Some u) = u

-- ---- a receipt

abbrev pub with_state : Receipt → ReceiptState → Receipt
with_state r s = record { owner = r.owner; bonded = r.bonded; state = s }

abbrev pub is_free : ReceiptState → Bool
is_free ReceiptState.Free = true
is_free (ReceiptState.Frozen j) = false
is_free ReceiptState.Struck = false

abbrev pub is_frozen : ReceiptState → Bool
is_frozen ReceiptState.Free = false
is_frozen (ReceiptState.Frozen j) = true
is_frozen ReceiptState.Struck = false

abbrev pub is_struck : ReceiptState → Bool
is_struck ReceiptState.Free = false
is_struck (ReceiptState.Frozen j) = false
is_struck ReceiptState.Struck = true

abbrev pub is_frozen_for : ℕ → ReceiptState → Bool
is_frozen_for n ReceiptState.Free = false
is_frozen_for n (ReceiptState.Frozen j) = eqb j n
is_frozen_for n ReceiptState.Struck = false

-- a receipt is frozen for match j and ordinary
abbrev pub is_ordinary_for : ℕ → Receipt → Bool
is_ordinary_for j r = is_frozen_for j r.state && not r.bonded

-- which receipts are meant: those of either class, or the bonded ones only
abbrev pub any_class : Bool
any_class = false

abbrev pub bonded_only : Bool
bonded_only = true

-- a receipt is free, owner k's, and of the class meant
abbrev pub is_free_of : Bool → ℕ → Receipt → Bool
is_free_of c k r = is_free r.state && eqb r.owner k && pick c r.bonded true

-- "1 frozen for a match"
abbrev pub frozen_for : ℕ → Receipt → Receipt
frozen_for j r = with_state r (ReceiptState.Frozen j)

-- a receipt that is frozen for match j is free, any other as it was
abbrev pub released : ℕ → Receipt → Receipt
released j r = pick (is_frozen_for j r.state) (with_state r ReceiptState.Free) r

-- a receipt that is frozen for match j is free and another's, any other as it was
abbrev pub passed : ℕ → ℕ → Receipt → Receipt
passed j taker r = pick (is_frozen_for j r.state) (record { owner = taker; bonded = r.bonded; state = ReceiptState.Free }) r

-- ---- a match

-- with so much money held, and a stage; it comes there with no vessel recorded: "Terminate after a first vessel drops the vessels recorded."
abbrev pub with_held : Match → ℕ → Stage → Match
with_held m x s = record { held = x; loaded = 0; counted = 0; price = m.price; units = m.units; due = m.due; heat = m.heat; buyer = m.buyer; seller = m.seller; stage = s; vessels = 0 }

-- with a vessel more recorded, of d due kilograms: they are added to those of the vessels before it, and "its amount counts towards B"
abbrev pub with_vessel : Match → ℕ → ℕ → Match
with_vessel m d x = record { held = m.held; loaded = m.loaded + d; counted = m.counted + x; price = m.price; units = m.units; due = m.due; heat = m.heat; buyer = m.buyer; seller = m.seller; stage = m.stage; vessels = m.vessels + 1 }

abbrev pub is_paired : Stage → Bool
is_paired Stage.Paired = true
is_paired Stage.Prepaid = false
is_paired Stage.Held = false
is_paired Stage.Closed = false
is_paired Stage.Ended = false
is_paired Stage.Funded = false
is_paired Stage.Awaiting = false

abbrev pub is_prepaid : Stage → Bool
is_prepaid Stage.Paired = false
is_prepaid Stage.Prepaid = true
is_prepaid Stage.Held = false
is_prepaid Stage.Closed = false
is_prepaid Stage.Ended = false
is_prepaid Stage.Funded = false
is_prepaid Stage.Awaiting = false

abbrev pub is_held : Stage → Bool
is_held Stage.Paired = false
is_held Stage.Prepaid = false
is_held Stage.Held = true
is_held Stage.Closed = false
is_held Stage.Ended = false
is_held Stage.Funded = false
is_held Stage.Awaiting = false

abbrev pub is_funded : Stage → Bool
is_funded Stage.Paired = false
is_funded Stage.Prepaid = false
is_funded Stage.Held = false
is_funded Stage.Closed = false
is_funded Stage.Ended = false
is_funded Stage.Funded = true
is_funded Stage.Awaiting = false

abbrev pub is_awaiting : Stage → Bool
is_awaiting Stage.Paired = false
is_awaiting Stage.Prepaid = false
is_awaiting Stage.Held = false
is_awaiting Stage.Closed = false
is_awaiting Stage.Ended = false
is_awaiting Stage.Funded = false
is_awaiting Stage.Awaiting = true

-- V is held, and the receipts are still the seller's
abbrev pub is_paid_for : Stage → Bool
is_paid_for s = is_funded s || is_awaiting s

-- "a frozen receipt may now be for a paired or a funded match"; "receipts stay frozen while a match awaits auction"
abbrev pub has_frozen : Stage → Bool
has_frozen s = is_paired s || is_funded s || is_awaiting s
