use Rattle.rules_walk.proofs.PartNeeds.{for_is_typed}
use Rattle.rules_walk.proofs.parts.is_typed.Goals as goal

pub returns : goal.returns
returns c = search for_is_typed
