use Rattle.rules.proofs.LookNeeds.{for_line}
use Rattle.rules.proofs.look.day_in.Goals as goal

pub returns : goal.returns
returns c = search for_line
