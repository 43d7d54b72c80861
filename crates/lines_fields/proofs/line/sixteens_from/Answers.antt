use Rattle.lines_fields.proofs.LineNeeds.{for_sixteens_from}
use Rattle.lines_fields.proofs.line.sixteens_from.Goals as goal

pub loop-i-preserved : goal.loop-i-preserved
loop-i-preserved c = search for_sixteens_from
