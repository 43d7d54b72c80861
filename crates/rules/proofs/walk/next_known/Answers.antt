use Rattle.rules.proofs.WalkNeeds.{for_next_known}
use Rattle.rules.proofs.walk.next_known.Goals as goal

pub returns : goal.returns
returns c = search for_next_known
