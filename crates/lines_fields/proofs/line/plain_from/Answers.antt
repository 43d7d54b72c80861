use Rattle.lines_fields.proofs.LineNeeds.{for_plain_from}
use Rattle.lines_fields.proofs.line.plain_from.Goals as goal

pub returns : goal.returns
returns c = search for_plain_from
