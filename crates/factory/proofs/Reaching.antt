-- What an accepted making gives, and what an accepted call leaves, is reached. Assumes nothing.
use Rattle.std.specs.Prelude.{◌≡◌, ℕ, Ok}
use Rattle.std.proofs.Common.{sym, ap}
use Rattle.factory.specs.declared.Call.{Call}
use Rattle.factory.specs.Types.{Factory, Outcome}
use Rattle.factory.specs.Answers.{accept}
use Rattle.factory.specs.Holders.{making}
use Rattle.factory.specs.Lists.{step, Reached, made, called}

pub begun : {f : Factory} (daily : ℕ) → Ok f ≡ making daily → Reached f
begun daily e = made daily _ (sym e)

pub kept : {f g : Factory} (c : Call) → Reached f → accept g ≡ step f c → Reached g
kept c r e = rw (ap (λ (o : Outcome). o.factory) e) (called c r)
