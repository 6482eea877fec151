-- Calls 13 to 18: Pay, Measure, Invoice, Terminate, Hand over, Auction. Assumes nothing.
use Rattle.std.specs.Prelude.{Bool, not, ◌&&◌, ◌||◌, List, ℕ, ◌+◌, ◌-◌, ◌*◌, ltb, leb, eqb, pos, get_or, set, Option, Some, None}
use Rattle.std.specs.Int.Signed.{lt_z}
use Rattle.coal.specs.Choice.{pick}
use Rattle.coal.specs.Coal.{percent_down, coal_price, coal_weight, amount}
use Rattle.book.specs.Types.{Stage, Receipt, Match, Book, Outcome}
use Rattle.book.specs.Counting.{iter}
use Rattle.book.specs.Rows.{blank_receipt, heat_missing, heat_value, released, passed, with_held, with_vessel, is_paired, is_prepaid, is_held, is_funded, is_awaiting}
use Rattle.book.specs.Tables.{account_at, match_at, put_match, with_receipts, with_fund, pay, charge, frozen_receipts, ordinary_receipts}
use Rattle.book.specs.Answers.{refuse_if, accept}

-- "V of a match = units × price × T."
unfoldable pub value : Book → Match → ℕ
value b m = m.units * m.price * b.tonnes

-- ---- penalties: a party's fault is the percent of V that it costs, None where it has none

-- "Seller's fault: unfit (10%), else receipts book with fewer frozen than units, or board book with heat missing (R%)."
unfoldable pub seller_fault : Book → ℕ → Option ℕ
seller_fault b j =
    pick (not (account_at b (match_at b j).seller).fit) (Some 10)
    (pick (pick b.board (heat_missing (match_at b j).heat) (ltb (frozen_receipts b j) (match_at b j).units)) (Some b.rate)
    None)

-- "Buyer's fault: unfit (10%), else cash below V (R%)."
unfoldable pub buyer_fault : Book → ℕ → Option ℕ
buyer_fault b j =
    pick (not (account_at b (match_at b j).buyer).fit) (Some 10)
    (pick (lt_z (account_at b (match_at b j).buyer).cash (pos (value b (match_at b j)))) (Some b.rate)
    None)

-- "A penalty is that percent of V, down."
unfoldable pub penalty : Book → Match → ℕ → ℕ
penalty b m x = percent_down x (value b m)

-- "One at fault pays the other; two at fault each pay the fund."
unfoldable pub punish : Book → Match → Option ℕ → Option ℕ → Book
punish b m None None = b
punish b m (Some x) None = pay (charge b m.buyer (penalty b m x)) m.seller (penalty b m x)
punish b m None (Some y) = pay (charge b m.seller (penalty b m y)) m.buyer (penalty b m y)
punish b m (Some x) (Some y) =
    with_fund (charge (charge b m.buyer (penalty b m x)) m.seller (penalty b m y)) (b.fund + (penalty b m x + penalty b m y))

-- ---- receipts of a match

-- receipt i of a table, where it is frozen for match j, is free
unfoldable pub release_turn : ℕ → ℕ → List Receipt → List Receipt
release_turn j i l = set l i (released j (get_or l i blank_receipt))

-- "its receipts are free again"
unfoldable pub free_again : Book → ℕ → Book
free_again b j = with_receipts b (iter b.receipt_count 0 (release_turn j) b.receipts) b.receipt_count

-- receipt i of a table, where it is frozen for match j, is another's and free
unfoldable pub pass_turn : ℕ → ℕ → ℕ → List Receipt → List Receipt
pass_turn j taker i l = set l i (passed j taker (get_or l i blank_receipt))

-- "the receipts pass to the buyer, free"; a winner "takes the receipts"
unfoldable pub pass_receipts : Book → ℕ → ℕ → Book
pass_receipts b j taker = with_receipts b (iter b.receipt_count 0 (pass_turn j taker) b.receipts) b.receipt_count

-- ---- the calls

-- match j, with money held and a stage
abbrev pub set_stage : Book → ℕ → ℕ → Stage → Book
set_stage b j x s = put_match b j (with_held (match_at b j) x s)

-- "seller gets 80% of .., down, the rest is held"
abbrev pub first_part : ℕ → ℕ
first_part x = percent_down 80 x

-- "moves V into money held": the buyer pays V, and V is held, at a stage
unfoldable pub into_held : Book → ℕ → Match → ℕ → Stage → Book
into_held b j m v s = set_stage (charge b m.buyer v) j v s

-- "a match of an overseas buyer with any ordinary receipt"
unfoldable pub to_auction : Book → ℕ → Match → Bool
to_auction b j m = (account_at b m.buyer).overseas && ltb 0 (ordinary_receipts b j)

-- "In a receipts book it gives the new stage 5, funded." "A board match goes from Pay to prepaid."
-- "Pay, where it finds no fault, puts a match of an overseas buyer with any ordinary receipt in stage 6, awaiting auction, with V held."
unfoldable pub paid_stage : Book → ℕ → Match → Stage
paid_stage b j m = pick b.board Stage.Prepaid (pick (to_auction b j m) Stage.Awaiting Stage.Funded)

-- "ends the match on a fault": "Then the match is ended and its receipts are free again."
unfoldable pub fault_ended : Book → ℕ → Match → Option ℕ → Option ℕ → Book
fault_ended b j m x y = free_again (set_stage (punish b m x y) j 0 Stage.Ended) j

-- by the buyer's fault and the seller's
unfoldable pub paid : Book → ℕ → Match → Option ℕ → Option ℕ → Book
paid b j m None None = into_held b j m (value b m) (paid_stage b j m)
paid b j m (Some x) None = fault_ended b j m (Some x) None
paid b j m None (Some y) = fault_ended b j m None (Some y)
paid b j m (Some x) (Some y) = fault_ended b j m (Some x) (Some y)

-- "Pay (call 13) judges faults as Settle did, ends the match on a fault, and otherwise moves V into money held."
unfoldable pub pay_match : Book → ℕ → Outcome
pay_match b j =
    refuse_if (leb b.match_count j) 21 b
    (refuse_if (not (is_paired (match_at b j).stage)) 22 b
    (refuse_if (ltb b.day (match_at b j).due) 23 b
    (accept 0 (paid b j (match_at b j) (buyer_fault b j) (seller_fault b j)))))

-- "D = units × T × 1,000 kg"
unfoldable pub weight_due : Book → Match → ℕ
weight_due b c = c.units * b.tonnes * 1_000

-- "Each vessel's weight, kilograms over (Job 2) and amount follow the rules as they now stand with its due weight for D": the amount of a vessel with d due kilograms,
-- by the heat table that the book was opened with, of P the match's price, H its declared heat, the settled weight, and the measured values
unfoldable pub vessel_amount : Book → Match → (d w q m s f a : ℕ) → ℕ
vessel_amount b c d w q m s f a = amount (coal_price b.heats c.price (heat_value c.heat) q s f a) (coal_weight d w m).settled

-- a vessel with d due kilograms more leaves the match short: its dues do not yet "add up to D"
unfoldable pub leaves_short : Book → Match → ℕ → Bool
leaves_short b c d = ltb (c.loaded + d) (weight_due b c)

-- "32 when the due weight is zero or takes the sum above D, or when the eighth leaves it short"
unfoldable pub bad_due : Book → Match → ℕ → Bool
bad_due b c d = eqb d 0 || ltb (weight_due b c) (c.loaded + d) || (eqb c.vessels 7 && leaves_short b c d)

-- "buyer gets V back and pays B; seller gets 80% of B, down; the rest is held; stage held."
unfoldable pub measured : Book → ℕ → Match → ℕ → Book
measured b j c x =
    set_stage (pay (charge (pay b c.buyer (value b c)) c.buyer x) c.seller (first_part x)) j (x - first_part x) Stage.Held

-- match j, with a vessel more recorded, of d due kilograms and amount x
abbrev pub record_vessel : Book → ℕ → ℕ → ℕ → Book
record_vessel b j d x = put_match b j (with_vessel (match_at b j) d x)

-- a vessel of d due kilograms and amount x: "The match stays prepaid until the dues add up to D; then B, the sum, is paid as before."
unfoldable pub loaded : Book → ℕ → Match → ℕ → ℕ → Book
loaded b j c d x = pick (leaves_short b c d) (record_vessel b j d x) (measured b j c (c.counted + x))

-- "14 Measure match, W, Q, M, S, F, A."; "Measure now names the due kilograms of the vessel as well, as its last argument."
-- "W kg 0..40,000,000,000"; "these five 0..10,000"; "Measure (prepaid)"; 32 "comes after 24"
-- "Measure's accepted answer carries the second in place of 0.": the vessel's kilograms over
unfoldable pub measure : Book → (j w q m s f a d : ℕ) → Outcome
measure b j w q m s f a d =
    refuse_if (not b.board) 4 b
    (refuse_if (leb b.match_count j) 21 b
    (refuse_if (not (is_prepaid (match_at b j).stage)) 22 b
    (refuse_if (ltb 40_000_000_000 w) 24 b
    (refuse_if (ltb 10_000 q) 24 b
    (refuse_if (ltb 10_000 m) 24 b
    (refuse_if (ltb 10_000 s) 24 b
    (refuse_if (ltb 10_000 f) 24 b
    (refuse_if (ltb 10_000 a) 24 b
    (refuse_if (bad_due b (match_at b j) d) 32 b
    (accept (coal_weight d w m).over (loaded b j (match_at b j) d (vessel_amount b (match_at b j) d w q m s f a))))))))))))

-- "15 Invoice match." "Invoice (held): the money held goes to the seller; closed."
unfoldable pub invoice : Book → ℕ → Outcome
invoice b j =
    refuse_if (leb b.match_count j) 21 b
    (refuse_if (not (is_held (match_at b j).stage)) 22 b
    (accept 0 (set_stage (pay b (match_at b j).seller (match_at b j).held) j 0 Stage.Closed)))

-- "party (0 buyer, 1 seller, 2 both)": the fault that a party has where it is named
abbrev pub blamed : Book → Bool → Option ℕ
blamed b named = pick named (Some b.rate) None

-- "buyer gets V back; party or parties at fault pay R% of V as above; ended."
unfoldable pub terminated : Book → ℕ → Match → ℕ → Book
terminated b j c party =
    set_stage (punish (pay b c.buyer (value b c)) c (blamed b (not (eqb party 1))) (blamed b (not (eqb party 0)))) j 0 Stage.Ended

-- "16 Terminate match, party (0 buyer, 1 seller, 2 both)." "Terminate (prepaid)"
unfoldable pub terminate : Book → ℕ → ℕ → Outcome
terminate b j party =
    refuse_if (not b.board) 4 b
    (refuse_if (ltb 2 party) 8 b
    (refuse_if (leb b.match_count j) 21 b
    (refuse_if (not (is_prepaid (match_at b j).stage)) 22 b
    (accept 0 (terminated b j (match_at b j) party)))))

-- "passes the receipts and pays the seller's 80%": "seller gets 80% of V, down, the rest is held"; the receipts pass to one who takes them, "free; stage held."
unfoldable pub handed : Book → ℕ → Match → ℕ → ℕ → Book
handed b j m v taker = pass_receipts (set_stage (pay b m.seller (first_part v)) j (v - first_part v) Stage.Held) j taker

-- "Hand over (call 17) takes a funded match"; "the receipts pass to the buyer"
unfoldable pub hand_over : Book → ℕ → Outcome
hand_over b j =
    refuse_if (leb b.match_count j) 21 b
    (refuse_if (not (is_funded (match_at b j).stage)) 22 b
    (accept 0 (handed b j (match_at b j) (value b (match_at b j)) (match_at b j).buyer)))

-- "Above zero, the winner pays the proceeds to the buyer and takes the receipts, the seller gets 80% and the rest is held as before."
unfoldable pub sold : Book → ℕ → Match → ℕ → ℕ → Book
sold b j m winner x = handed (pay (charge b winner x) m.buyer x) j m (value b m) winner

-- "20% of V, down"
abbrev pub no_bid_part : ℕ → ℕ
no_bid_part v = percent_down 20 v

-- "Proceeds of zero mean nobody bid: the buyer gets V back, pays the seller 20% of V, down, the match is ended and the receipts are freed"
unfoldable pub unsold : Book → ℕ → Match → ℕ → Book
unsold b j m v = free_again (set_stage (pay (charge (pay b m.buyer v) m.buyer (no_bid_part v)) m.seller (no_bid_part v)) j 0 Stage.Ended) j

-- by the proceeds
unfoldable pub auctioned : Book → ℕ → Match → ℕ → ℕ → Book
auctioned b j m winner x = pick (eqb x 0) (unsold b j m (value b m)) (sold b j m winner x)

-- "Call 18 names match, winner and proceeds." "the winner's number must still name an account". "Proceeds outside 0..10^15 are refused as 8."
-- "29 when the winner is overseas and proceeds are above zero; 30 when proceeds are above zero and its cash is below them"
unfoldable pub auction : Book → (j winner x : ℕ) → Outcome
auction b j winner x =
    refuse_if (leb b.account_count winner) 6 b
    (refuse_if (ltb 1_000_000_000_000_000 x) 8 b
    (refuse_if (leb b.match_count j) 21 b
    (refuse_if (not (is_awaiting (match_at b j).stage)) 22 b
    (refuse_if (ltb 0 x && (account_at b winner).overseas) 29 b
    (refuse_if (ltb 0 x && lt_z (account_at b winner).cash (pos x)) 30 b
    (accept 0 (auctioned b j (match_at b j) winner x)))))))
