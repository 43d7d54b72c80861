use Rattle.lines_fields.proofs.FieldNeeds.{for_field_of}
use Rattle.lines_fields.proofs.fields.field_of.Goals as goal

pub returns-then-f-eq0 : goal.returns-then-f-eq0
returns-then-f-eq0 c = search for_field_of

pub slice_bounds-first_field-count : goal.slice_bounds-first_field-count
slice_bounds-first_field-count c = search for_field_of

pub slice_bounds-first_field-start : goal.slice_bounds-first_field-start
slice_bounds-first_field-start c = search for_field_of

pub returns : goal.returns
returns c = search for_field_of
