use Rattle.rules.proofs.LastNeeds.{for_last_of}
use Rattle.rules.proofs.line.last_of.Goals as goal

pub returns-then-fields-last : goal.returns-then-fields-last
returns-then-fields-last c = search for_last_of

pub returns-else-fields-last : goal.returns-else-fields-last
returns-else-fields-last c = search for_last_of
