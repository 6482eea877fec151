-- The statement on lists of calls, in the words of document 02's Job 14. Assumes nothing.
use Rattle.std.specs.Prelude.{◌≡◌, List, [], ◌+◌}
use Rattle.factory.specs.declared.Call.{Call}
use Rattle.factory.specs.Types.{Factory}
use Rattle.factory.specs.Lists.{after, claimed, shared_out, uncollected, waiting}

-- "From a factory without holders, over any list of these calls, the units claimed on accepted arrivals equal those shared out, those that leavers left uncollected
-- and those still waiting."
abbrev pub Balance : Type 0
Balance = (f : Factory) → f.holders ≡ [] → (cs : List Call) → claimed f cs ≡ shared_out f cs + uncollected f cs + waiting (after f cs)
