use Rattle.book.specs.Masks.{is_balanced}
use Rattle.masks.proofs.Testing.{FoundTo, SumsOf}
use Rattle.masks.proofs.balanced_masks.Given as goal

abbrev pub invariant-loop-mask : goal.invariant-loop-mask
invariant-loop-mask l = FoundTo (is_balanced l.longs l.shorts) l.tests l.mask l.masks.items × SumsOf l.longs l.shorts l.mask l.long l.short
