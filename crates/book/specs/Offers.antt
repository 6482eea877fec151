-- Calls 7 to 10: Declare, Offer, Retract, Take. Assumes nothing.
use Rattle.std.specs.Prelude.{not, ◌&&◌, ℕ, ltb, leb, eqb, Some, None}
use Rattle.book.specs.Types.{Book, Outcome}
use Rattle.book.specs.Rows.{with_heat, with_offer, long_units, short_units, heat_missing, offer_missing, offer_units, any_class}
use Rattle.book.specs.Tables.{account_at, put_account, free_receipts}
use Rattle.book.specs.Answers.{refuse_if, accept}
use Rattle.book.specs.Pairing.{pair}

-- "7 Declare account, heat 4,300..10,000; replaces an earlier one."
unfoldable pub declare : Book → ℕ → ℕ → Outcome
declare b k h =
    refuse_if (not b.board) 4 b
    (refuse_if (leb b.account_count k) 6 b
    (refuse_if (ltb h 4_300) 8 b
    (refuse_if (ltb 10_000 h) 8 b
    (accept 0 (put_account b k (with_heat (account_at b k) (Some h)))))))

-- "8 Offer seller, units."
unfoldable pub offer : Book → ℕ → ℕ → Outcome
offer b seller u =
    refuse_if (not b.«open») 5 b
    (refuse_if (leb b.account_count seller) 6 b
    (refuse_if (ltb u 1) 8 b
    (refuse_if (ltb 1_000 u) 8 b
    (refuse_if (not (offer_missing (account_at b seller).offer)) 12 b
    (refuse_if (ltb (short_units (account_at b seller)) u) 14 b
    (refuse_if (not b.board && ltb (free_receipts b any_class seller) u) 15 b
    (refuse_if (b.board && heat_missing (account_at b seller).heat) 19 b
    (accept 0 (put_account b seller (with_offer (account_at b seller) (Some u)))))))))))

-- the offer of account k ends
abbrev pub end_offer : Book → ℕ → Book
end_offer b k = put_account b k (with_offer (account_at b k) None)

-- "9 Retract seller."
unfoldable pub retract : Book → ℕ → Outcome
retract b seller =
    refuse_if (not b.«open») 5 b
    (refuse_if (leb b.account_count seller) 6 b
    (refuse_if (offer_missing (account_at b seller).offer) 13 b
    (accept 0 (end_offer b seller))))

-- "10 Take buyer, seller: the whole offer becomes a match due in 2 days; the offer ends; carries the match number."
unfoldable pub take_offer : Book → ℕ → ℕ → Outcome
take_offer b buyer seller =
    let u = offer_units (account_at b seller).offer in
    refuse_if (not b.«open») 5 b
    (refuse_if (leb b.account_count buyer) 6 b
    (refuse_if (leb b.account_count seller) 6 b
    (refuse_if (eqb buyer seller) 7 b
    (refuse_if (offer_missing (account_at b seller).offer) 13 b
    (refuse_if (ltb (long_units (account_at b buyer)) u) 14 b
    (refuse_if (not b.board && ltb (free_receipts b any_class seller) u) 15 b
    (refuse_if (leb 64 b.match_count) 20 b
    (accept b.match_count (end_offer (pair b any_class 2 buyer seller u) seller)))))))))
