use Rattle.lines_fields.proofs.FieldNeeds.{for_field_from}
use Rattle.lines_fields.proofs.fields.field_from.Goals as goal

pub returns-then-text-at : goal.returns-then-text-at
returns-then-text-at c = search for_field_from

pub returns : goal.returns
returns c = search for_field_from
