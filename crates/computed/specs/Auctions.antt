-- Auction: a match with receipts of either class sold, one for which nobody bid, and the seller as the winner; matches that don't go to auction beside them,
-- and refusals 6, 8, 21, 22, 29 and 30. Assumes nothing.
use Rattle.std.specs.Prelude.{◌≡◌, refl, List, [], ◌∷◌, ◌++◌, pos}
use Rattle.book.specs.declared.calls.Call.{Call}
use Rattle.computed.specs.Script.{Line, line, ok, no, owes, play, account, receipt, matched, fund, ledger_after, sums_after}

-- ---- sold, and nobody bid

-- match 0 has a bonded receipt and an ordinary one, match 1 an ordinary one; both are paid
abbrev paid : List Line
paid =
    line (Call.Join 0 1) (ok 0)
    ∷ line (Call.Join 1 1) (ok 1)
    ∷ line (Call.Join 0 1) (ok 2)
    ∷ line (Call.Deposit 1 20_000_000) (ok 0)
    ∷ line (Call.Deposit 2 5_000_000) (ok 0)
    ∷ line (Call.Lodge 0 1) (ok 0)
    ∷ line (Call.Lodge 0 0) (ok 1)
    ∷ line (Call.Lodge 0 0) (ok 2)
    ∷ line (Call.Trade 1 0 3) (ok 0)
    ∷ line (Call.Offer 0 2) (ok 0)
    ∷ line (Call.Take 1 0) (ok 0)
    ∷ line (Call.Offer 0 1) (ok 0)
    ∷ line (Call.Take 1 0) (ok 1)
    ∷ line (Call.Auction 0 2 5) (no 22)
    ∷ line (Call.Day 610_000) (ok 1)
    ∷ line (Call.Day 610_000) (ok 2)
    ∷ line (Call.Pay 0) (ok 0)
    ∷ line (Call.Pay 1) (ok 0)
    ∷ []

abbrev auctioned : List Line
auctioned =
    line (Call.Pay 0) (no 22)
    ∷ line (Call.HandOver 0) (no 22)
    ∷ line (Call.Invoice 0) (no 22)
    ∷ line (Call.Strike 0 0) (no 18)
    ∷ line (Call.Auction 0 3 1) (no 6)
    ∷ line (Call.Auction 0 3 0) (no 6)
    ∷ line (Call.Auction 0 2 1_000_000_000_000_001) (no 8)
    ∷ line (Call.Auction 0 2 1_000_000_000_000_000) (no 30)
    ∷ line (Call.Auction 2 2 1) (no 21)
    ∷ line (Call.Auction 0 1 1) (no 29)
    ∷ line (Call.Auction 0 2 5_000_001) (no 30)
    ∷ line (Call.Auction 0 2 5_000_000) (ok 0)
    ∷ line (Call.Auction 0 2 5_000_000) (no 22)
    ∷ line (Call.Invoice 0) (ok 0)
    ∷ line (Call.Auction 1 1 0) (ok 0)
    ∷ line (Call.Auction 1 1 0) (no 22)
    ∷ line (Call.Strike 0 2) (ok 0)
    ∷ []

answers : play 0 5 20 600_000 (paid ++ auctioned) ≡ paid ++ auctioned
unfolding play
answers = refl

-- "in stage 6, awaiting auction, with V held"; "receipts stay frozen while a match awaits auction"
awaiting : ledger_after 0 5 20 600_000 paid
    ≡ account 0 (pos 0) 0 0
    ∷ account 1 (pos 11_000_000) 0 0
    ∷ account 2 (pos 5_000_000) 0 0
    ∷ receipt 0 0 1 1
    ∷ receipt 1 0 0 1
    ∷ receipt 2 0 0 1
    ∷ matched 0 1 0 2 600_000 6 6_000_000
    ∷ matched 1 1 0 1 600_000 6 3_000_000
    ∷ fund 0
    ∷ []
unfolding ledger_after
awaiting = refl

-- of match 0 the winner has both receipts, the seller all of V, and the buyer the proceeds; of match 1 the buyer has V back less 20%, which the seller has
ledger : ledger_after 0 5 20 600_000 (paid ++ auctioned)
    ≡ account 0 (pos 6_600_000) 0 0
    ∷ account 1 (pos 18_400_000) 0 0
    ∷ account 2 (pos 0) 0 0
    ∷ receipt 0 2 1 0
    ∷ receipt 1 2 0 0
    ∷ receipt 2 0 0 2
    ∷ matched 0 1 0 2 600_000 3 0
    ∷ matched 1 1 0 1 600_000 4 0
    ∷ fund 0
    ∷ []
unfolding ledger_after
ledger = refl

-- "money must come out even across it"
sums_awaiting : sums_after 0 5 20 600_000 paid
    ≡ record { deposits = 25_000_000; withdrawals = 0; traded = 3; cash = pos 16_000_000; held = 9_000_000; in_matches = 3; long = 0; short = 0; entered = pos 0 ∷ pos 11_000_000 ∷ pos 5_000_000 ∷ [] }
unfolding sums_after
sums_awaiting = refl

sums : sums_after 0 5 20 600_000 (paid ++ auctioned)
    ≡ record { deposits = 25_000_000; withdrawals = 0; traded = 3; cash = pos 25_000_000; held = 0; in_matches = 3; long = 0; short = 0; entered = pos 6_600_000 ∷ pos 18_400_000 ∷ pos 0 ∷ [] }
unfolding sums_after
sums = refl

-- ---- the seller wins; all bonded, a domestic buyer, an unfit buyer

-- match 0 has a bonded receipt, the others an ordinary one each; account 2 is domestic, account 3 unfit
abbrev five : List Line
five =
    line (Call.Join 0 1) (ok 0)
    ∷ line (Call.Join 1 1) (ok 1)
    ∷ line (Call.Join 0 1) (ok 2)
    ∷ line (Call.Join 1 0) (ok 3)
    ∷ line (Call.Deposit 0 40) (ok 0)
    ∷ line (Call.Deposit 1 219) (ok 0)
    ∷ line (Call.Deposit 2 73) (ok 0)
    ∷ line (Call.Lodge 0 1) (ok 0)
    ∷ line (Call.Lodge 0 0) (ok 1)
    ∷ line (Call.Lodge 0 0) (ok 2)
    ∷ line (Call.Lodge 0 0) (ok 3)
    ∷ line (Call.Lodge 0 0) (ok 4)
    ∷ line (Call.Trade 1 0 3) (ok 0)
    ∷ line (Call.Trade 2 0 1) (ok 0)
    ∷ line (Call.Trade 3 0 1) (ok 0)
    ∷ line (Call.Offer 0 1) (ok 0)
    ∷ line (Call.Take 1 0) (ok 0)
    ∷ line (Call.Offer 0 1) (ok 0)
    ∷ line (Call.Take 2 0) (ok 1)
    ∷ line (Call.Offer 0 1) (ok 0)
    ∷ line (Call.Take 1 0) (ok 2)
    ∷ line (Call.Offer 0 1) (ok 0)
    ∷ line (Call.Take 3 0) (ok 3)
    ∷ line (Call.Offer 0 1) (ok 0)
    ∷ line (Call.Take 1 0) (ok 4)
    ∷ line (Call.Day 9) (ok 1)
    ∷ line (Call.Day 9) (ok 2)
    ∷ line (Call.Pay 0) (ok 0)
    ∷ line (Call.Pay 1) (ok 0)
    ∷ line (Call.Pay 2) (ok 0)
    ∷ line (Call.Pay 3) (ok 0)
    ∷ line (Call.Pay 4) (ok 0)
    ∷ []

-- V is 73: the winner's cash is what it had before the call, and where nobody bid the named one may be overseas and below zero
abbrev decided : List Line
decided =
    line (Call.Auction 0 0 1) (no 22)
    ∷ line (Call.Auction 1 0 1) (no 22)
    ∷ line (Call.Auction 3 0 1) (no 22)
    ∷ line (Call.Auction 2 3 1) (no 29)
    ∷ line (Call.Auction 2 0 48) (no 30)
    ∷ line (Call.Auction 2 0 47) (ok 0)
    ∷ line (Call.Auction 4 3 0) (ok 0)
    ∷ line (Call.HandOver 0) (ok 0)
    ∷ line (Call.HandOver 1) (ok 0)
    ∷ []

answers_seller : play 0 1 35 73 (five ++ decided) ≡ five ++ decided
unfolding play
answers_seller = refl

stages : ledger_after 0 1 35 73 five
    ≡ account 0 (pos 47) 0 0
    ∷ account 1 (pos 0) 0 0
    ∷ account 2 (pos 0) 0 0
    ∷ account 3 (owes 7) 0 0
    ∷ receipt 0 0 1 1
    ∷ receipt 1 0 0 1
    ∷ receipt 2 0 0 1
    ∷ receipt 3 0 0 0
    ∷ receipt 4 0 0 1
    ∷ matched 0 1 0 1 73 5 73
    ∷ matched 1 2 0 1 73 5 73
    ∷ matched 2 1 0 1 73 6 73
    ∷ matched 3 3 0 1 73 4 0
    ∷ matched 4 1 0 1 73 6 73
    ∷ fund 0
    ∷ []
unfolding ledger_after
stages = refl

ledger_seller : ledger_after 0 1 35 73 (five ++ decided)
    ≡ account 0 (pos 188) 0 0
    ∷ account 1 (pos 106) 0 0
    ∷ account 2 (pos 0) 0 0
    ∷ account 3 (owes 7) 0 0
    ∷ receipt 0 1 1 0
    ∷ receipt 1 2 0 0
    ∷ receipt 2 0 0 0
    ∷ receipt 3 0 0 0
    ∷ receipt 4 0 0 0
    ∷ matched 0 1 0 1 73 2 15
    ∷ matched 1 2 0 1 73 2 15
    ∷ matched 2 1 0 1 73 2 15
    ∷ matched 3 3 0 1 73 4 0
    ∷ matched 4 1 0 1 73 4 0
    ∷ fund 0
    ∷ []
unfolding ledger_after
ledger_seller = refl

sums_seller : sums_after 0 1 35 73 (five ++ decided)
    ≡ record { deposits = 332; withdrawals = 0; traded = 5; cash = pos 287; held = 45; in_matches = 5; long = 0; short = 0; entered = pos 188 ∷ pos 106 ∷ pos 0 ∷ owes 7 ∷ [] }
unfolding sums_after
sums_seller = refl
