-- Demand 3, whole: for every list of calls from the book of any accepted opening. Assumes nothing.
use Rattle.std.specs.Prelude.{◌≡◌, ℕ, ◌<◌}
use Rattle.book.specs.Types.{ReceiptState, Book}
use Rattle.book.specs.Tables.{receipt_at, frozen_receipts}
use Rattle.book.specs.Opening.{opening}
use Rattle.book.specs.Lists.{after}
use Rattle.book.specs.Demand3.{FrozenForOne, Demand3}
use Rattle.book.proofs.laws.Sound.{SoundTables}
use Rattle.book.proofs.laws.Calls.{opening_tables}
use Rattle.book.proofs.laws.Steps.{after_tables}
use Rattle.book.proofs.laws.Units.{all_traded, balanced}
use Rattle.book.proofs.laws.Money.{money, entered}
use Rattle.book.proofs.laws.FirstPass.{first_pass_holds}

-- each frozen receipt is frozen for exactly one match, paired, funded or awaiting auction, and belongs to that match's seller
frozen : (e : Book) → SoundTables e → (i j : ℕ) → i < e.receipt_count → (receipt_at e i).state ≡ ReceiptState.Frozen j → FrozenForOne e i
frozen e r i j h q =
    let s = r.core.receipts.rows i h in
    record { number = j; there = s.frozen_there j q; frozen = q; only = λ k z. cc; paired_funded_or_awaiting = s.frozen_stage j q; sellers = s.frozen_seller j q }

pub demand_3 : Demand3
unfolding frozen_receipts
demand_3 heats s kind t r p a cs =
    let b = (opening heats kind t r p).book in
    let o = opening_tables heats s kind t r p in
    let e = after_tables b cs o in
    record {
      money = money heats s kind t r p a cs;
      traded = all_traded heats s kind t r p cs;
      balanced = balanced heats s kind t r p cs;
      entered = λ k h. entered heats s kind t r p a cs k;
      frozen = frozen (after b cs) e;
      no_more = e.core.receipts.no_more;
      closed = λ front back budget q h. first_pass_holds (after b front) budget (after_tables b front o) h;
    }
