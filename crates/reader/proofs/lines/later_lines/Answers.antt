use Rattle.std.proofs.Common.{◌∙◌, ap}
use Rattle.reader.specs.Lines.{lines}
use Rattle.reader.proofs.Cutting.{first_later, rest_whole}
use Rattle.reader.proofs.lines.later_lines.Goals as goal

pub returns-clause-lines : goal.returns-clause-lines
returns-clause-lines c = ap lines (rest_whole c.args.text.now c.line_length.ensures.counted) ∙ first_later c.args.text.now
