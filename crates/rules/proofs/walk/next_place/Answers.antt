use Rattle.rules.proofs.WalkNeeds.{for_next}
use Rattle.rules.proofs.walk.next_place.Goals as goal

pub returns-in-3-to-7 : goal.returns-in-3-to-7
returns-in-3-to-7 c = search for_next

pub returns-in_default : goal.returns-in_default
returns-in_default c = search for_next

pub returns-in_default-2 : goal.returns-in_default-2
returns-in_default-2 c = search for_next
