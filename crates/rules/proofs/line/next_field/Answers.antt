use Rattle.rules.proofs.LastNeeds.{for_next_field}
use Rattle.rules.proofs.line.next_field.Goals as goal

pub returns-in-3-f : goal.returns-in-3-f
returns-in-3-f c = search for_next_field

pub returns-in_default-f : goal.returns-in_default-f
returns-in_default-f c = search for_next_field

pub returns-in_default : goal.returns-in_default
returns-in_default c = search for_next_field
