use Rattle.lines_fields.proofs.LineNeeds.{for_text_end}
use Rattle.lines_fields.proofs.line.text_end.Goals as goal

pub returns-then-n-ne0 : goal.returns-then-n-ne0
returns-then-n-ne0 c = search for_text_end

pub loop-i-preserved : goal.loop-i-preserved
loop-i-preserved c = search for_text_end

pub returns : goal.returns
returns c = search for_text_end
