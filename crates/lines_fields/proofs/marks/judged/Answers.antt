use Rattle.lines_fields.proofs.SpanNeeds.{for_judged}
use Rattle.lines_fields.proofs.marks.judged.Goals as goal

pub slice_bounds-result-count : goal.slice_bounds-result-count
slice_bounds-result-count c = search for_judged

pub slice_bounds-result-start : goal.slice_bounds-result-start
slice_bounds-result-start c = search for_judged

pub slice_bounds-result-end : goal.slice_bounds-result-end
slice_bounds-result-end c = search for_judged

pub returns : goal.returns
returns c = search for_judged
