use Rattle.rules.proofs.WalkNeeds.{for_advance}
use Rattle.rules.proofs.walk.advance.Goals as goal

pub returns : goal.returns
returns c = search for_advance
