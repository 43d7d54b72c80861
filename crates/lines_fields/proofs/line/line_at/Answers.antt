use Rattle.lines_fields.proofs.LineNeeds.{for_line_at}
use Rattle.lines_fields.proofs.line.line_at.Goals as goal

pub returns : goal.returns
returns c = search for_line_at
