-- The eighteen calls as one step of the machine. Assumes nothing.
use Rattle.book.specs.Types.{Book, Outcome, Call}
use Rattle.book.specs.Opening.{next_day}
use Rattle.book.specs.Accounts.{join, deposit, withdraw, trade}
use Rattle.book.specs.Receipts.{lodge, strike}
use Rattle.book.specs.Offers.{declare, offer, retract, take_offer}
use Rattle.book.specs.Closing.{close}
use Rattle.book.specs.Settlement.{pay_match, measure, invoice, terminate, hand_over, auction}

-- the answer to a call, and the book that it leaves
unfoldable pub step : Book → Call → Outcome
step b (Call.Join residence fitness) = join b residence fitness
step b (Call.Deposit k x) = deposit b k x
step b (Call.Withdraw k x) = withdraw b k x
step b (Call.Trade buyer seller u) = trade b buyer seller u
step b (Call.Lodge owner class) = lodge b owner class
step b (Call.Strike owner i) = strike b owner i
step b (Call.Declare k h) = declare b k h
step b (Call.Offer seller u) = offer b seller u
step b (Call.Retract seller) = retract b seller
step b (Call.Take buyer seller) = take_offer b buyer seller
step b (Call.Day p) = next_day b p
step b (Call.Close budget) = close b budget
step b (Call.Pay j) = pay_match b j
step b (Call.Measure j x d) = measure b j x.weight x.quality.heat x.moisture x.quality.sulphur x.quality.volatiles x.quality.ash d
step b (Call.Invoice j) = invoice b j
step b (Call.Terminate j party) = terminate b j party
step b (Call.HandOver j) = hand_over b j
step b (Call.Auction j winner x) = auction b j winner x
