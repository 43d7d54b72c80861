use Rattle.lines_fields.proofs.AtNeeds.{for_start_at}
use Rattle.lines_fields.proofs.fields.start_at.Goals as goal

pub returns-then-f-eq0 : goal.returns-then-f-eq0
returns-then-f-eq0 c = search for_start_at

pub returns-then-more-eq1 : goal.returns-then-more-eq1
returns-then-more-eq1 c = search for_start_at

pub returns-then-e-ne0 : goal.returns-then-e-ne0
returns-then-e-ne0 c = search for_start_at

pub loop-i-preserved : goal.loop-i-preserved
loop-i-preserved c = search for_start_at

pub returns : goal.returns
returns c = search for_start_at
