use Rattle.lines_fields.proofs.LineNeeds.{for_line_text}
use Rattle.lines_fields.proofs.line.line_text.Goals as goal

pub returns-then-n-eq0 : goal.returns-then-n-eq0
returns-then-n-eq0 c = search for_line_text

pub returns : goal.returns
returns c = search for_line_text
