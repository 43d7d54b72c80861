use Rattle.lines_fields.proofs.AtNeeds.{for_field_at}
use Rattle.lines_fields.proofs.fields.field_at.Goals as goal

pub returns-then-f-eq0 : goal.returns-then-f-eq0
returns-then-f-eq0 c = search for_field_at

pub slice_bounds-result-end-then-start-end : goal.slice_bounds-result-end-then-start-end
slice_bounds-result-end-then-start-end c = search for_field_at

pub returns-then-start-end : goal.returns-then-start-end
returns-then-start-end c = search for_field_at

pub returns : goal.returns
returns c = search for_field_at
