use Rattle.std.specs.Prelude.{◌≡◌, fold, bit_or}
use Rattle.std.proofs.Common.{rules, ◌∙◌}
use Rattle.masks.proofs.Uniting.{fold_united}
use Rattle.masks.proofs.united.Goals as goal

pub returns : goal.returns
returns c = let e : c.fold.result ≡ fold (λ used m. bit_or used m) 0 c.args.masks.now = search rules in e ∙ fold_united _
