use Rattle.rules_walk.proofs.RepeatNeeds.{for_is_noted}
use Rattle.rules_walk.proofs.repeats.is_noted.Goals as goal

pub returns-then-i-table : goal.returns-then-i-table
returns-then-i-table c = search for_is_noted

pub returns : goal.returns
returns c = search for_is_noted
