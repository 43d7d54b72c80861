use Rattle.rules.proofs.WalkNeeds.{for_next}
use Rattle.rules.proofs.walk.next_since.Goals as goal

pub returns-then-k-eq-IE : goal.returns-then-k-eq-IE
returns-then-k-eq-IE c = search for_next

pub returns-else-k-eq-IE : goal.returns-else-k-eq-IE
returns-else-k-eq-IE c = search for_next
