use Rattle.std.proofs.Common.{◌≡◌, refl, ap, ◌∙◌, length}
use Rattle.std.specs.List.{refill}
use Rattle.factory.specs.declared.Call.{Call}
use Rattle.factory.specs.Day.{evening, day}
use Rattle.factory.specs.Lists.{step, called}
use Rattle.factory.proofs.LastRound.{put_back}
use Rattle.factory.proofs.Factory.day.Goals as goal

-- the holders as they are left stand where they stood
written : (c : goal.After-self-1) → refill (length c.self.inside.holders.items) c.self.inside.holders.items c.share_out.new.holders ≡ c.share_out.new.holders
written c = put_back _ _ (c.share_out.auto.holders ∙ ap length c.deref_mut.ensures.value)

pub returns : goal.returns
unfolding day evening
returns c = rw (written c, c.share_out.ensures.shares, c.share_out.ensures.left, ← c.self.view_is, c.deref_mut.ensures.value) refl

pub invariant_of-self : goal.invariant_of-self
unfolding step day evening
invariant_of-self c = rw (written c, c.share_out.ensures.left, c.deref_mut.ensures.value) (called Call.Day c.self.invariant)
