-- The loop's invariant: the line's numbers are what the bytes to come make of those read so far. Assumes nothing.
use Rattle.reader.proofs.Reading.{HalfRead}
use Rattle.reader.proofs.numbers.read_numbers.Given as goal

abbrev pub invariant-loop-b : goal.invariant-loop-b
invariant-loop-b l = HalfRead l.line l.text l.b-index l.number l.numbers.items
