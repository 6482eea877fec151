use mathlib.Core.Logic.{inl, inr}
use Rattle.std.proofs.Common.{rules, arith}
use Rattle.reader.proofs.Reading.{first_read, read_long, read_no_number, read_other, read_end, read_nothing, at_err, one_read}
use Rattle.reader.proofs.numbers.read_numbers.Goals as goal
use Rattle.reader.proofs.numbers.read_numbers.Goals.{in_default-b-via-then-b-lt48, in_default-b-via-else-b-lt48+else-b-lt58}

pub loop-b-init : goal.loop-b-init
loop-b-init c = rw c.new-numbers.ensures (first_read c.args.line.now (search rules) (search rules))

pub returns-in_err-push-in-32-clause-bad : goal.returns-in_err-push-in-32-clause-bad
returns-in_err-push-in-32-clause-bad c = at_err _ (search rules) (read_no_number c.loop-b.invariant c.loop-b-test.true c.in-32.is (search rules))

pub returns-in_err-with_digit-in-48-to-57-clause-bad : goal.returns-in_err-with_digit-in-48-to-57-clause-bad
returns-in_err-with_digit-in-48-to-57-clause-bad c = at_err _ (search rules) (read_long c.loop-b.invariant c.loop-b-test.true (omega arith) (omega arith) _ (search rules))

pub returns-in_default-b-clause-bad : goal.returns-in_default-b-clause-bad
returns-in_default-b-clause-bad c =
    let r = c.loop-b.invariant in
    elim c.in_default-b.branch [
      | in_default-b-via-then-b-lt48 w ↦ read_other r c.loop-b-test.true (inl (omega arith)) (search rules)
      | in_default-b-via-else-b-lt48+else-b-lt58 w ↦ read_other r c.loop-b-test.true (inr (omega arith)) (search rules)
    ]

pub returns-in_err-push-clause-bad : goal.returns-in_err-push-clause-bad
returns-in_err-push-clause-bad c = at_err _ (search rules) (read_nothing c.loop-b.invariant c.loop-b-test.false (search rules))

pub returns-clause-read : goal.returns-clause-read
returns-clause-read c = (search (rules, read_end c.loop-b.invariant), one_read _ _ _ c.in_ok-push.ensures.ok)
