use Rattle.factory.proofs.Counting.{none_whole}
use Rattle.factory.proofs.Turns.{turns_fewer}
use Rattle.factory.proofs.sharing.whole_rounds.Goals as goal

pub loop-rounds-init : goal.loop-rounds-init
loop-rounds-init c = none_whole c.args.holders.now c.args.daily

pub loop-rounds-smaller : goal.loop-rounds-smaller
loop-rounds-smaller c = turns_fewer _ _ _ _ _ _ c.count_waiting-waiting.ensures c.if-waiting-eq0.false c.if-rounds-waiting.false c.min-more.ensures
