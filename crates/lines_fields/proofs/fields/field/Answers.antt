use Rattle.lines_fields.proofs.FieldNeeds.{for_field}
use Rattle.lines_fields.proofs.fields.field.Goals as goal

pub returns : goal.returns
returns c = search for_field
