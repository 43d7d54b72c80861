use Rattle.rules.proofs.LookNeeds.{for_line}
use Rattle.rules.proofs.blocks.event_of.Goals as goal

pub returns : goal.returns
returns c = search for_line
