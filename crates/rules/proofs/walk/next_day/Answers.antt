use Rattle.rules.proofs.WalkNeeds.{for_next}
use Rattle.rules.proofs.walk.next_day.Goals as goal

pub returns-then-k-j : goal.returns-then-k-j
returns-then-k-j c = search for_next

pub returns-else-k-j : goal.returns-else-k-j
returns-else-k-j c = search for_next
