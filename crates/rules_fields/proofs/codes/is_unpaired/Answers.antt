use Rattle.rules_fields.proofs.CodeNeeds.{for_unpaired}
use Rattle.rules_fields.proofs.codes.is_unpaired.Goals as goal

pub returns-then-a-eq4 : goal.returns-then-a-eq4
returns-then-a-eq4 c = search for_unpaired

pub returns : goal.returns
returns c = search for_unpaired
