use Rattle.lines_fields.proofs.LineNeeds.{for_line_start}
use Rattle.lines_fields.proofs.line.line_start.Goals as goal

pub returns-clause-upper_bound : goal.returns-clause-upper_bound
returns-clause-upper_bound c = search for_line_start
