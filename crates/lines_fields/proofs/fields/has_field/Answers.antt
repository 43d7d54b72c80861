use Rattle.lines_fields.proofs.FieldNeeds.{for_field}
use Rattle.lines_fields.proofs.fields.has_field.Goals as goal

pub returns-then-f-eq0 : goal.returns-then-f-eq0
returns-then-f-eq0 c = search for_field

pub returns : goal.returns
returns c = search for_field
