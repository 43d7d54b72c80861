use Rattle.rules.proofs.WalkNeeds.{for_next}
use Rattle.rules.proofs.walk.next_uli.Goals as goal

pub returns-then-k-eq-IP : goal.returns-then-k-eq-IP
returns-then-k-eq-IP c = search for_next

pub returns-else-k-eq-IP : goal.returns-else-k-eq-IP
returns-else-k-eq-IP c = search for_next
