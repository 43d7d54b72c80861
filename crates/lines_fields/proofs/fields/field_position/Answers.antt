use Rattle.lines_fields.proofs.FieldNeeds.{for_field_position}
use Rattle.lines_fields.proofs.fields.field_position.Goals as goal

pub overflow_sub-line : goal.overflow_sub-line
overflow_sub-line c = search for_field_position

pub overflow_sub-f : goal.overflow_sub-f
overflow_sub-f c = search for_field_position

pub overflow_add-result : goal.overflow_add-result
overflow_add-result c = search for_field_position

pub returns-then-has_field : goal.returns-then-has_field
returns-then-has_field c = search for_field_position

pub returns-else-has_field : goal.returns-else-has_field
returns-else-has_field c = search for_field_position
