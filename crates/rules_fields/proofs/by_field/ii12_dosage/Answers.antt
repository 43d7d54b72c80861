use Rattle.rules_fields.proofs.FieldNeeds.{for_parts}
use Rattle.rules_fields.proofs.by_field.ii12_dosage.Goals as goal

pub returns : goal.returns
returns c = search for_parts
