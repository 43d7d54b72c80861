use Rattle.rules.proofs.JudgeNeeds.{for_walk_noted}
use Rattle.rules.proofs.pass.walk_noted.Goals as goal

pub returns : goal.returns
returns g c = search for_walk_noted
