use Rattle.lines_fields.proofs.LineNeeds.{for_lines_on}
use Rattle.lines_fields.proofs.line.lines_on.Goals as goal

pub returns-then-file-start : goal.returns-then-file-start
returns-then-file-start c = search for_lines_on

pub loop-preserved : goal.loop-preserved
loop-preserved c = search for_lines_on

pub returns : goal.returns
returns c = search for_lines_on
