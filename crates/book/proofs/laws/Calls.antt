-- The opening and the calls that neither pair nor settle keep the tables sound: one short lemma for each accepted call. Assumes nothing.
use Rattle.std.specs.Prelude.{◌≡◌, refl, ◌≢◌, Bool, true, false, List, [], ◌∷◌, ℕ, ◌+◌, ◌≤◌, ◌<◌, eqb, pos, neg_ℤ, length, Option, Some, None}
use Rattle.std.proofs.Common.{sym, arith, eqb-true, ltb-false, get_or-set_other}
use Rattle.std.proofs.lemmas.Bool.{eqb-false}
use Rattle.coal.specs.Choice.{pick}
use Rattle.std.proofs.lemmas.List.{length-replicate}
use Rattle.heats.specs.HeatTables.{IsHeatTable}
use Rattle.book.specs.Types.{Side, ReceiptState, Lots, Account, Book}
use Rattle.book.specs.Rows.{blank_account, blank_receipt, blank_match, is_short, short_units, with_heat, with_offer, with_state, lots_on, needs_fifth, units_on}
use Rattle.book.specs.Tables.{account_at, receipt_at, add_account, add_receipt, put_account, put_receipt, with_day, with_deposited, pay, charge}
use Rattle.book.specs.Opening.{fresh, opening}
use Rattle.book.specs.Accounts.{new_account, add_units, traded}
use Rattle.book.specs.Receipts.{new_receipt}
use Rattle.book.specs.Offers.{end_offer}
use Rattle.book.specs.Entries.{plus, minus}
use Rattle.book.proofs.laws.Counting.{by_pick, rows_add, impossible}
use Rattle.book.proofs.laws.Answered.{MayJoin, MayDeposit, MayWithdraw, MayTrade, MayLodge, MayStrike, MayDeclare, MayOffer, MayRetract, MayDay, of_opening}
use Rattle.book.proofs.laws.Sound.{SoundLots, SoundAccount, SoundOffer, AccountTable, SoundTables}
use Rattle.book.proofs.laws.Tables.{accounts_add, account_placed, no_offer, tables_put, matches_more, receipts_more, receipts_put, receipts_add, tables_receipts}
use Rattle.book.proofs.laws.Posting.{Posted, posted_none, post, posted_accounts, posted_offers}

-- ---- the opening

fresh_tables : (heats : List ℕ) → IsHeatTable heats → (board : Bool) (t r p : ℕ) → 1 ≤ t → t ≤ 20_000 → r ≤ 100 → 1 ≤ p → p ≤ 1_000_000 → SoundTables (fresh heats board t r p)
fresh_tables heats s board t r p a b c d e = record {
  core = record {
    terms = record { tonnes_some = a; tonnes_few = b; rate_few = c; heat_table = s; price_some = d; price_few = e; day_few = omega arith; deposits_few = omega arith };
    accounts = record { size = length-replicate 32 blank_account; few = omega arith; rows = λ k h. absurd (omega arith) };
    matches = record { size = length-replicate 256 blank_match; few = omega arith; rows = λ k h. absurd (omega arith) };
    receipts = record { size = length-replicate 256 blank_receipt; few = omega arith; none = λ h. refl; rows = λ k h. absurd (omega arith); no_more = λ k h. absurd (omega arith) };
  };
  offers = λ k h. absurd (omega arith);
  matches_few = omega arith;
  matches_open = λ h. omega arith;
}

pub opening_tables : (heats : List ℕ) → IsHeatTable heats → (kind t r p : ℕ) → SoundTables (opening heats kind t r p).book
opening_tables = of_opening SoundTables fresh_tables

-- ---- the calls

new_sound : (day residence fitness : ℕ) → SoundAccount day (new_account residence fitness)
new_sound day residence fitness = record {
  few = omega arith;
  flat_none = λ h. refl;
  long_some = λ h. impossible (cc);
  short_some = λ h. impossible (cc);
  in_lots = search arith;
  heat_low = λ x h. impossible (cc);
  heat_high = λ x h. impossible (cc);
}

-- units opened on this day, where there is a place for them
on_lots : {day n : ℕ} (l : Lots) (u : ℕ) → 0 < u → needs_fifth l day ≡ false → SoundLots day n l → SoundLots day (n + u) (lots_on l u day)
on_lots {day} {n} l u p h r = go (eqb l.newest.day day) refl
  where
    go : (t : Bool) → eqb l.newest.day day ≡ t → SoundLots day (n + u) (pick t (record { oldest = l.oldest; second = l.second; third = l.third; newest = record { day = day; units = l.newest.units + u } })
        (record { oldest = l.second; second = l.third; third = l.newest; newest = record { day = day; units = u } }))
    go true e =
        let d : l.newest.day ≡ day = eqb-true _ _ e in
        record {
          whole = omega (arith, r.whole);
          second_day = r.second_day;
          third_day = r.third_day;
          newest_day = omega (arith, r.newest_day);
          past = omega arith;
          second_later = r.second_later;
          third_later = r.third_later;
          newest_later = λ q. omega (arith, r.newest_later q);
          second_taken = r.second_taken;
          third_taken = r.third_taken;
          newest_taken = λ q. omega arith;
        }
    go false e =
        let d = eqb-false l.newest.day day e in
        let free : l.oldest.units ≤ 0 = ltb-false _ _ (rw e at h) in
        record {
          whole = omega (arith, r.whole);
          second_day = r.third_day;
          third_day = r.newest_day;
          newest_day = r.past;
          past = omega arith;
          second_later = r.third_later;
          third_later = r.newest_later;
          newest_later = λ q. omega (arith, r.past);
          second_taken = r.third_taken;
          third_taken = r.newest_taken;
          newest_taken = λ q. p;
        }

-- units added on a side
on_sound : {day : ℕ} (a : Account) (s : Side) (u : ℕ) → s ≢ Side.Flat → 0 < u → a.units + u ≤ 1_000 → needs_fifth a.lots day ≡ false → SoundAccount day a → SoundAccount day (units_on a s u day)
on_sound {day} a s u n p h f r = account_placed r h (λ e. absurd (n e)) (λ e. omega arith) (λ e. omega arith) (on_lots a.lots u p f r.in_lots)

-- on the long side: the account is not short, so it has no offer
on_long_offer : (a : Account) (u day : ℕ) → is_short a.side ≡ false → SoundOffer a → SoundOffer (units_on a Side.Long u day)
on_long_offer a u day e r = record {
  offered = λ x h. absurd (let z : short_units a ≡ 0 = rw e in omega (arith, r.offered x h, r.offered_some x h));
  offered_some = r.offered_some;
}

on_short_offer : (a : Account) (u day : ℕ) → SoundOffer a → SoundOffer (units_on a Side.Short u day)
on_short_offer a u day r = record {
  offered = λ x h. let s : short_units a ≤ a.units = by_pick (λ (y : ℕ). y ≤ a.units) (is_short a.side) (λ e. omega arith) (λ e. omega arith) in omega (arith, r.offered x h);
  offered_some = r.offered_some;
}

heat_sound : {day : ℕ} (a : Account) (x : ℕ) → 4_300 ≤ x → x ≤ 10_000 → SoundAccount day a → SoundAccount day (with_heat a (Some x))
heat_sound a x h g r =
    let low : (y : ℕ) → Some x ≡ Some y → 4_300 ≤ y = λ y e. let q : x ≡ y = cc in omega arith in
    let high : (y : ℕ) → Some x ≡ Some y → y ≤ 10_000 = λ y e. let q : x ≡ y = cc in omega arith in
    search

module _ {b : Book} (r : SoundTables b) where
  -- an account of the book has its cell
  pub cell : (k : ℕ) → k < b.account_count → k < length b.accounts
  cell k h = omega (arith, r.core.accounts.size, r.core.accounts.few)

  pub join_tables : {residence fitness : ℕ} → MayJoin b residence fitness → SoundTables (add_account b (new_account residence fitness))
  join_tables {residence} {fitness} g =
      let a = new_account residence fitness in
      let n = b.account_count in
      let more = matches_more {n' = n + 1} {day' = b.day} (omega arith) (omega arith) r.core.matches in
      let owners = receipts_more {n' = n + 1} (omega arith) r.core.receipts in
      let offers = rows_add SoundOffer b.accounts n a blank_account (omega (arith, r.core.accounts.size, g.space)) r.offers (no_offer a refl) in
      search (accounts_add, new_sound)

  pub deposit_posted : {k x : ℕ} → MayDeposit b k x → Posted b.accounts (pay (with_deposited b (b.deposited + x)) k x).accounts (plus k x ∷ [])
  unfolding pay
  deposit_posted {k} {x} g = post b.accounts k (pos x) (cell k g.there) (posted_none _)

  pub deposit_tables : {k x : ℕ} → MayDeposit b k x → SoundTables (pay (with_deposited b (b.deposited + x)) k x)
  unfolding pay
  deposit_tables g = let p = deposit_posted g in search (posted_accounts, posted_offers)

  pub withdraw_posted : {k x : ℕ} → MayWithdraw b k x → Posted b.accounts (charge b k x).accounts (minus k x ∷ [])
  unfolding charge
  withdraw_posted {k} {x} g = post b.accounts k (neg_ℤ (pos x)) (cell k g.there) (posted_none _)

  pub withdraw_tables : {k x : ℕ} → MayWithdraw b k x → SoundTables (charge b k x)
  unfolding charge
  withdraw_tables g = let p = withdraw_posted g in search (posted_accounts, posted_offers)

  pub trade_tables : {buyer seller u : ℕ} → MayTrade b buyer seller u → SoundTables (traded b buyer seller u)
  trade_tables {buyer} {seller} {u} g =
      let x = account_at b buyer in
      let y = account_at b seller in
      let c = add_units b buyer Side.Long u in
      let e : account_at c seller ≡ y = get_or-set_other b.accounts buyer seller (units_on x Side.Long u b.day) blank_account (λ q. g.two (sym q)) in
      let s : SoundTables c = tables_put buyer (units_on x Side.Long u b.day) r
      (on_sound x Side.Long u (λ q. impossible (cc)) g.some g.buyer_few g.buyer_place (r.core.accounts.rows buyer g.buyer_there)) (on_long_offer x u b.day g.buyer_side (r.offers buyer g.buyer_there)) in
      tables_put seller (units_on (account_at c seller) Side.Short u b.day) s
      (rw e (on_sound y Side.Short u (λ q. impossible (cc)) g.some g.seller_few g.seller_place (r.core.accounts.rows seller g.seller_there)))
      (rw e (on_short_offer y u b.day (r.offers seller g.seller_there)))

  pub lodge_tables : {owner class : ℕ} → MayLodge b owner class → SoundTables (add_receipt b (new_receipt owner class))
  lodge_tables {owner} {class} g = tables_receipts _ _ (receipts_add (new_receipt owner class) g.space g.owner_there refl g.no_board r.core.receipts) r

  pub strike_tables : {owner i : ℕ} → MayStrike b owner i → SoundTables (put_receipt b i (with_state (receipt_at b i) ReceiptState.Struck))
  strike_tables {i = i} g = tables_receipts _ _ (receipts_put i (with_state (receipt_at b i) ReceiptState.Struck) g.there (r.core.receipts.rows i g.there).owner_there refl r.core.receipts) r

  pub declare_tables : {k h : ℕ} → MayDeclare b k h → SoundTables (put_account b k (with_heat (account_at b k) (Some h)))
  declare_tables {k} {h} g =
      let o = r.offers k g.there in
      tables_put k (with_heat (account_at b k) (Some h)) r (heat_sound (account_at b k) h g.low g.high (r.core.accounts.rows k g.there)) (search)

  -- another offer of an account
  offer_put : (k : ℕ) (o : Option ℕ) → k < b.account_count → SoundOffer (with_offer (account_at b k) o) → SoundTables (put_account b k (with_offer (account_at b k) o))
  offer_put k o h s = let a = r.core.accounts.rows k h in tables_put k (with_offer (account_at b k) o) r (search) s

  pub offer_tables : {seller u : ℕ} → MayOffer b seller u → SoundTables (put_account b seller (with_offer (account_at b seller) (Some u)))
  offer_tables {seller} {u} g =
      offer_put seller (Some u) g.there (record { offered = λ x e. let q : u ≡ x = cc in omega (arith, g.short); offered_some = λ x e. let q : u ≡ x = cc in omega (arith, g.some) })

  pub retract_tables : {seller : ℕ} → MayRetract b seller → SoundTables (end_offer b seller)
  retract_tables {seller} g = offer_put seller None g.there (no_offer (with_offer (account_at b seller) None) refl)

  -- a day later
  lots_later : {day n : ℕ} {l : Lots} → SoundLots day n l → SoundLots (day + 1) n l
  lots_later r = search arith

  pub day_tables : {p : ℕ} → MayDay b p → SoundTables (with_day b p (b.day + 1))
  day_tables g =
      let t = r.core.accounts in
      let a : AccountTable (b.day + 1) b.account_count b.accounts = record { size = t.size; few = t.few; rows = λ k m. let s = t.rows k m in let l = lots_later s.in_lots in search arith } in
      let m = matches_more {n' = b.account_count} {day' = b.day + 1} (omega arith) (omega arith) r.core.matches in
      search arith
