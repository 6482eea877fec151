use Rattle.std.proofs.Common.{rules, tests, refl, ap, ◌∙◌, arith}
use Rattle.std.specs.Slice.Iter.{split_inclusive_rest, split_inclusive_callee}
use Rattle.reader.proofs.Splitting.{gives_lines, next_line, no_line}
use Rattle.factory_text.proofs.Printing.{answer_short}
use Rattle.factory_text.proofs.Listing.{printed_on, printed_all}
use Rattle.factory_text.proofs.print_replies.Goals as goal

pub loop-line-init : goal.loop-line-init
loop-line-init c =
    let cut = c.split_inclusive-line-items.ensures in
    let same = c.into_iter-line-iterator.ensures.into_iter_gives in (
      c.args.text.now,
      gives_lines _ _ (ap split_inclusive_rest same ∙ cut.rest) (ap split_inclusive_callee same ∙ cut.closure) (λ x r q k. search (rules, tests)),
      record { reached = c.requires.reached; room = omega arith; long = refl; on = λ z p. p },
    )

pub print_answer-requires-clause-room : goal.print_answer-requires-clause-room
print_answer-requires-clause-room c =
    let i = c.loop-line.invariant in
    let m = next_line {t = c.next.new.self} i.0 i.1 c.in-Some.line c.in-Some.ensures.steps in
    omega (arith, c.requires.room, i.2.room, i.2.long, m.0)

pub print_answer-requires-clause-short : goal.print_answer-requires-clause-short
print_answer-requires-clause-short c = answer_short c.loop-line.invariant.2.reached _ c.reply.ensures

pub loop-line-preserved : goal.loop-line-preserved
loop-line-preserved c =
    let i = c.loop-line.invariant in
    let m = next_line i.0 i.1 c.in-Some.line c.in-Some.ensures.steps in
    let answer = c.print_answer.ensures in
    (_, m.2, printed_on m.0 m.1 refl i.2 _ c.reply.ensures answer.printed answer.few)

pub returns : goal.returns
returns c =
    let i = c.loop-line.invariant in
    printed_all i.2 (no_line i.0 i.1 c.in-None.ensures.steps)
