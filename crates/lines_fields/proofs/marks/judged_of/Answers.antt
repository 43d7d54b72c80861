use Rattle.lines_fields.proofs.SpanNeeds.{for_judged_of}
use Rattle.lines_fields.proofs.marks.judged_of.Goals as goal

pub returns : goal.returns
returns c = search for_judged_of
