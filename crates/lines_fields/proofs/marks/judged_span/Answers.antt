use Rattle.lines_fields.proofs.SpanNeeds.{for_judged_span}
use Rattle.lines_fields.proofs.marks.judged_span.Goals as goal

pub returns-then-marks-ne-MARKS : goal.returns-then-marks-ne-MARKS
returns-then-marks-ne-MARKS c = search for_judged_span

pub returns-then-f-eq0 : goal.returns-then-f-eq0
returns-then-f-eq0 c = search for_judged_span

pub returns-then-f-gt-MOST_MARKED : goal.returns-then-f-gt-MOST_MARKED
returns-then-f-gt-MOST_MARKED c = search for_judged_span

pub returns-then-wide-f : goal.returns-then-wide-f
returns-then-wide-f c = search for_judged_span

pub returns-then-stop-start : goal.returns-then-stop-start
returns-then-stop-start c = search for_judged_span

pub returns-then-file-stop : goal.returns-then-file-stop
returns-then-file-stop c = search for_judged_span

pub returns : goal.returns
returns c = search for_judged_span
