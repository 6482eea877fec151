-- What is paid for a match is small, and there is room for it: rules of `search money`. Assumes nothing.
use Rattle.std.specs.Prelude.{◌≡◌, refl, ℕ, suc, ◌+◌, ◌*◌, ◌≤◌, ◌<◌, pos, neg_ℤ, nat_abs, Option, Some, None}
use Rattle.std.proofs.Common.{arith, mul-le-mul, add_assoc, Fits}
use Rattle.std.specs.Int.{w64}
use Rattle.whole.specs.Whole.{natAbs_sum, natAbs_neg}
use Rattle.book.specs.declared.accounts.Account.{Account}
use Rattle.book.specs.declared.tables.Book.{Book}
use Rattle.book.specs.Rows.{blank_account, heat_value}
use Rattle.book.specs.Tables.{account_at, match_at, put_account, with_fund, pay, charge}
use Rattle.book.specs.Settlement.{value, weight_due}
use Rattle.book.specs.Lists.{Reached}
use Rattle.book.proofs.laws.Counting.{at_set}
use Rattle.book.proofs.laws.Bounds.{weight_due_most}
use Rattle.book.proofs.laws.Sound.{Sound}
use Rattle.book.proofs.laws.Reaching.{sound}
use Rattle.reached.specs.Needs.{calls}
use Rattle.payments.specs.declared.valued.ValuedMatch.{ValuedMatch}
use Rattle.payments.specs.Money.{most_paid, most_cash, Room, fined, valued, Due, Handing}

-- ---- amounts, in fen

module _ (u : ℕ) (h : u ≤ 1_000) where
  -- "V of a match = units × price × T."
  module _ (p : ℕ) (i : p ≤ 1_000_000) where
    price_most : u * p ≤ 1_000_000_000
    price_most = mul-le-mul h i

    pub price_fits : Fits w64 (u * p)
    price_fits = record { fits = omega (arith, price_most) }

    module _ (t : ℕ) (k : t ≤ 20_000) where
      value_most : u * p * t ≤ 20_000_000_000_000
      value_most = mul-le-mul price_most k

      pub value_fits : Fits w64 (u * p * t)
      value_fits = record { fits = omega (arith, value_most) }

      pub value_small : u * p * t ≤ most_paid
      value_small = omega (arith, value_most)

-- ---- room for payments

pub room_cash : (k : ℕ) (b : Book) → Room 1 b → nat_abs (account_at b k).cash ≤ most_cash
room_cash k b r = omega (arith, r.cash k)

pub room_less : (n o : ℕ) (b : Book) → Room o b → n ≤ o → Room n b
room_less n o b r h = record { cash = λ k. omega (arith, r.cash k); fund = omega (arith, r.fund) }

module _ (n : ℕ) (b : Book) where
  room_put : (k : ℕ) (a : Account) → nat_abs a.cash + n * most_paid ≤ most_cash → Room (suc n) b → Room n (put_account b k a)
  room_put k a h r =
      record { cash = λ i. at_set (λ (c : Account). nat_abs c.cash + n * most_paid ≤ most_cash) b.accounts k i a blank_account (λ e. h) (omega (arith, r.cash i)); fund = omega (arith, r.fund) }

  -- after a payment there is room for one less
  module _ (f : Book) (k x : ℕ) where
    pub room_paid : f ≡ pay b k x → x ≤ most_paid → Room (suc n) b → Room n f
    unfolding pay
    room_paid e h r = rw e (room_put k _ (omega (arith, natAbs_sum (account_at b k).cash (pos x), r.cash k)) r)

    pub room_charged : f ≡ charge b k x → x ≤ most_paid → Room (suc n) b → Room n f
    unfolding charge
    room_charged e h r = rw e (room_put k _ (omega (arith, natAbs_sum (account_at b k).cash (neg_ℤ (pos x)), natAbs_neg (pos x), r.cash k)) r)

pub room_fined : (n : ℕ) (p : Option ℕ) (b f : Book) (k x : ℕ) → f ≡ fined p b k x → x ≤ most_paid → Room (suc (suc n)) b → Room n f
unfolding fined
room_fined n None b f k x e h r = rw e (record { cash = λ j. omega (arith, (room_charged (suc n) b _ k x refl h r).cash j); fund = omega (arith, r.fund) })
room_fined n (Some i) b f k x e h r = room_paid n (charge b k x) f i x e h (room_charged (suc n) b _ k x refl h r)

-- two at fault, one after the other
pub both_fined : (b : Book) (k i x y : ℕ) → fined None (fined None b k x) i y ≡ with_fund (charge (charge b k x) i y) (b.fund + (x + y))
unfolding fined charge
both_fined b k i x y = rw (add_assoc b.fund x y)

-- ---- a match and what it is worth

module _ (b : Book) (m : ValuedMatch) (d : Due b m) where
  pub handing_due : Handing b m
  handing_due = record { receipts_few = d.receipts_few; seller_there = d.deal.seller_there; room = room_less 1 8 b d.room (omega arith) }

  -- after account i paid x to the buyer: of a match with that row, whatever it is said to be worth
  pub handing_sold : (n : ValuedMatch) → n.row ≡ m.row → (c f : Book) (i x : ℕ) → c ≡ charge b i x → f ≡ pay c m.row.buyer x → x ≤ most_paid → Handing f n
  unfolding pay charge
  handing_sold n q c f i x e g h = record {
    receipts_few = rw (g, e) d.receipts_few;
    seller_there = rw q d.deal.seller_there;
    room = room_paid 1 c f m.row.buyer x g h (room_charged 2 b c i x e h (room_less 3 8 b d.room (omega arith)));
  }

-- ---- a reached book

-- the declared heat, or 0 where it is missing
heat_most : (t : Option ℕ) → ((x : ℕ) → t ≡ Some x → x ≤ 10_000) → heat_value t ≤ 10_000
heat_most None g = omega arith
heat_most (Some x) g = g x refl

module _ (b : Book) (r : Reached b) where
  s : Sound b
  s = sound r

  pub room_sound : (n : ℕ) → n ≤ 8 → Room n b
  room_sound n h = record { cash = λ k. omega (arith, s.cash_few k); fund = omega (arith, s.fund_few) }

  pub due_sound : (j : ℕ) → j < b.match_count → Due b (valued b j)
  unfolding value weight_due
  due_sound j h =
      let m = s.tables.core.matches.rows j h in
      record {
        receipts_few = search calls;
        rate_few = search calls;
        tonnes_few = search calls;
        units_few = search calls;
        price_few = search calls;
        heat_few = heat_most (match_at b j).heat m.heat_high;
        row = refl;
        loaded_few = m.loaded_few;
        vessels_few = m.vessels_few;
        counted_few = omega (arith, weight_due_most b (match_at b j) m.few s.tables.core.terms.tonnes_few, m.loaded_few, m.vessels_few, m.counted_few);
        deal = record { buyer_there = search calls; seller_there = search calls; worth = refl };
        room = room_sound 8 (omega arith);
      }

pub ruleset money = (room_less, room_paid, room_charged, room_fined)
