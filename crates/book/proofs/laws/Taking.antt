-- Take and Close keep the tables sound: each of their pairings keeps all but the offers, and the offers that do not stand end. Assumes nothing.
use Rattle.std.specs.Prelude.{◌≡◌, refl, ◌≢◌, false, ℕ, ◌<◌, Some, None}
use Rattle.std.proofs.Common.{arith, get_or-set_same, get_or-set_other}
use Rattle.book.specs.Types.{Side, Account, Book}
use Rattle.book.specs.Rows.{blank_account, short_units, offer_units, with_offer, any_class, units_off}
use Rattle.book.specs.Tables.{account_at, with_open}
use Rattle.book.specs.Pairing.{pair}
use Rattle.book.specs.Offers.{end_offer}
use Rattle.book.specs.Closing.{all_passes, lapse_offers}
use Rattle.book.proofs.laws.Counting.{by_eq, impossible}
use Rattle.book.proofs.laws.Answered.{MayTake, MayClose}
use Rattle.book.proofs.laws.Sound.{SoundOffer, SoundTables}
use Rattle.book.proofs.laws.Tables.{no_offer, core_put}
use Rattle.book.proofs.laws.Pairing.{Pairable, pairable, pair_core, paired_buyer, paired_other, paired_accounts, paired_matches}
use Rattle.book.proofs.laws.Closing.{lapsed, lapse_core}
use Rattle.book.proofs.laws.Passes.{passes_keep}

-- an account that is long has no offer, whatever units it loses
long_offer : (a : Account) (u : ℕ) → a.side ≡ Side.Long → SoundOffer a → SoundOffer (units_off a u)
long_offer a u e r = record { offered = λ x h. absurd (none x h); offered_some = λ x h. absurd (none x h) }
  where
    none : (x : ℕ) → a.offer ≡ Some x → ⊥
    none x h = let z : short_units a ≡ 0 = rw e in omega (arith, r.offered x h, r.offered_some x h)

module _ {b : Book} (r : SoundTables b) where
  pub take_pairable : {buyer seller : ℕ} → MayTake b buyer seller → Pairable b buyer seller (offer_units (account_at b seller).offer)
  take_pairable {buyer} {seller} g =
      let u = offer_units (account_at b seller).offer in
      let o = r.offers seller g.seller_there in
      pairable b buyer seller u g.buyer_there g.seller_there (o.offered_some u g.stands) g.long (o.offered u g.stands) (omega (arith, g.space))

  pub take_tables : {buyer seller : ℕ} → MayTake b buyer seller → SoundTables (end_offer (pair b any_class 2 buyer seller (offer_units (account_at b seller).offer)) seller)
  take_tables {buyer} {seller} g =
      let u = offer_units (account_at b seller).offer in
      let p = take_pairable g in
      let d = pair b any_class 2 buyer seller u in
      let q = pair_core b any_class 2 buyer seller u (omega arith) p r.core in
      let t = q.core.accounts in
      let a = with_offer (account_at d seller) None in
      let n = paired_accounts q in
      let other : (i : ℕ) → i < b.account_count → i ≢ seller → SoundOffer (account_at d i) = λ i h z. by_eq i buyer
      (λ e. rw e (rw (paired_buyer p q r.core) (long_offer (account_at b buyer) u p.buyer_long (r.offers buyer g.buyer_there))))
      (λ e. rw (paired_other p q r.core i e z) (r.offers i h)) in
      record {
        core = let s = t.rows seller (omega (arith, g.seller_there)) in core_put seller a q.core (search);
        offers = λ i h. by_eq i seller
            (λ e. rw e (rw (get_or-set_same d.accounts seller a blank_account (omega (arith, t.size, t.few))) (no_offer a refl)))
            (λ e. rw (get_or-set_other d.accounts seller i a blank_account e) (other i (omega arith) e));
        matches_few = omega (arith, paired_matches q, g.space);
        matches_open = λ z. omega (arith, paired_matches q, g.space);
      }

  pub close_tables : {budget : ℕ} → MayClose b budget → SoundTables (with_open (lapse_offers (all_passes b budget)) false)
  unfolding lapse_offers
  close_tables {budget} g =
      let p = passes_keep (λ (x : Book). Unit {0}) (λ b c x y u h g k. tt) b budget (r.matches_open g.is_open) r.core tt in
      let d = all_passes b budget in
      let t = p.core.accounts in
      let c = lapse_core d p.core in
      let l = lapsed d (omega (arith, t.size, t.few)) in
      record {
        core = search;
        offers = λ k h. no_offer (account_at (lapse_offers d) k) (l.ended k h);
        matches_few = omega (arith, p.high_count, r.matches_open g.is_open);
        matches_open = λ z. impossible (cc);
      }
