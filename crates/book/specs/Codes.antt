-- Document 01's number for each case of an enum, and the measured values in the order of Measure. Assumes nothing.
use Rattle.std.specs.Prelude.{Bool, true, false, ℕ}
use Rattle.book.specs.Types.{Sample, Refusal, Side, ReceiptState, Stage, Call}

-- "a side (0 none, 1 long, 2 short)"
abbrev pub side_number : Side → ℕ
side_number Side.Flat = 0
side_number Side.Long = 1
side_number Side.Short = 2

-- "class (0 ordinary, 1 bonded)": the class of a receipt by whether it is bonded
abbrev pub class_number : Bool → ℕ
class_number false = 0
class_number true = 1

-- "state (0 free, 1 frozen for a match, 2 struck, keeping its last owner)"
abbrev pub state_number : ReceiptState → ℕ
state_number ReceiptState.Free = 0
state_number (ReceiptState.Frozen j) = 1
state_number ReceiptState.Struck = 2

-- "a stage: 0 paired, 1 prepaid, 2 held, 3 closed, 4 ended"; "the new stage 5, funded"; "stage 6, awaiting auction"
abbrev pub stage_number : Stage → ℕ
stage_number Stage.Paired = 0
stage_number Stage.Prepaid = 1
stage_number Stage.Held = 2
stage_number Stage.Closed = 3
stage_number Stage.Ended = 4
stage_number Stage.Funded = 5
stage_number Stage.Awaiting = 6

-- "A refusal is one number"
abbrev pub refusal_number : Refusal → ℕ
refusal_number Refusal.OutOfRange = 1
refusal_number Refusal.LastDay = 2
refusal_number Refusal.AccountsFull = 3
refusal_number Refusal.OtherKind = 4
refusal_number Refusal.MarketShut = 5
refusal_number Refusal.NoAccount = 6
refusal_number Refusal.BuyerIsSeller = 7
refusal_number Refusal.OutsideSet = 8
refusal_number Refusal.OtherSide = 9
refusal_number Refusal.PositionFull = 10
refusal_number Refusal.AboveCash = 11
refusal_number Refusal.OfferStands = 12
refusal_number Refusal.NoOffer = 13
refusal_number Refusal.AboveUnits = 14
refusal_number Refusal.AboveReceipts = 15
refusal_number Refusal.ReceiptsFull = 16
refusal_number Refusal.NoReceipt = 17
refusal_number Refusal.ReceiptFrozen = 18
refusal_number Refusal.HeatMissing = 19
refusal_number Refusal.TakesFull = 20
refusal_number Refusal.NoMatch = 21
refusal_number Refusal.WrongStage = 22
refusal_number Refusal.BeforeDueDay = 23
refusal_number Refusal.MeasuredOutOfRange = 24
refusal_number Refusal.DepositsFull = 25
refusal_number Refusal.BadLine = 26
refusal_number Refusal.BufferShort = 27
refusal_number Refusal.FifthDay = 28
refusal_number Refusal.OverseasWinner = 29
refusal_number Refusal.AboveWinnersCash = 30
refusal_number Refusal.BadTable = 31
refusal_number Refusal.BadDueWeight = 32

-- "14 Measure match, W, Q, M, S, F, A": the measured values, in that order
abbrev pub sample : (w q m s f a : ℕ) → Sample
sample w q m s f a = record { weight = w; moisture = m; quality = record { heat = q; sulphur = s; volatiles = f; ash = a } }

-- "Calls, by number"; "Pay (call 13)", "Hand over (call 17)"; "Call 18 names match, winner and proceeds"
abbrev pub call_number : Call → ℕ
call_number (Call.Join residence fitness) = 1
call_number (Call.Deposit k x) = 2
call_number (Call.Withdraw k x) = 3
call_number (Call.Trade buyer seller u) = 4
call_number (Call.Lodge owner class) = 5
call_number (Call.Strike owner i) = 6
call_number (Call.Declare k h) = 7
call_number (Call.Offer seller u) = 8
call_number (Call.Retract seller) = 9
call_number (Call.Take buyer seller) = 10
call_number (Call.Day p) = 11
call_number (Call.Close budget) = 12
call_number (Call.Pay j) = 13
call_number (Call.Measure j x d) = 14
call_number (Call.Invoice j) = 15
call_number (Call.Terminate j party) = 16
call_number (Call.HandOver j) = 17
call_number (Call.Auction j winner x) = 18
