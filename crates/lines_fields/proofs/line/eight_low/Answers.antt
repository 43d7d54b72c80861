use Rattle.lines_fields.proofs.LineNeeds.{for_eight_low}
use Rattle.lines_fields.proofs.line.eight_low.Goals as goal

pub returns : goal.returns
returns c = search for_eight_low
