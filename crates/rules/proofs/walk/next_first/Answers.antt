use Rattle.rules.proofs.WalkNeeds.{for_next}
use Rattle.rules.proofs.walk.next_first.Goals as goal

pub returns-then-many : goal.returns-then-many
returns-then-many c = search for_next

pub returns-else-many : goal.returns-else-many
returns-else-many c = search for_next

pub returns-then-joined : goal.returns-then-joined
returns-then-joined c = search for_next

pub returns-else-joined : goal.returns-else-joined
returns-else-joined c = search for_next
