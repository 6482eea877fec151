use Rattle.std.proofs.Common.{rules, tests, refl, ap, ◌∙◌}
use Rattle.std.specs.Slice.Iter.{split_inclusive_rest, split_inclusive_callee}
use Rattle.reader.proofs.Splitting.{gives_lines, next_line, no_line}
use Rattle.running.proofs.Running.{led_on, led_all}
use Rattle.running.proofs.run.Goals as goal

pub loop-line-init : goal.loop-line-init
loop-line-init c =
    let cut = c.split_inclusive-line-items.ensures in
    let same = c.into_iter-line-iterator.ensures.into_iter_gives in
    (c.args.text.now, gives_lines _ _ (ap split_inclusive_rest same ∙ cut.rest) (ap split_inclusive_callee same ∙ cut.closure) (λ x r q k. search (rules, tests)), record { same = refl })

pub loop-line-preserved : goal.loop-line-preserved
loop-line-preserved c =
    let i = c.loop-line.invariant in
    let m = next_line i.0 i.1 c.in-Some.line c.in-Some.ensures.steps in
    (_, m.2, led_on m.0 m.1 refl i.2 _ c.reply.ensures)

pub returns : goal.returns
returns c =
    let i = c.loop-line.invariant in
    led_all i.2 (no_line i.0 i.1 c.in-None.ensures.steps)
