use Rattle.rules.proofs.WalkNeeds.{for_next}
use Rattle.rules.proofs.walk.next_not_immunized.Goals as goal

pub returns-then-k-eq-IN : goal.returns-then-k-eq-IN
returns-then-k-eq-IN c = search for_next

pub returns-else-k-eq-IN : goal.returns-else-k-eq-IN
returns-else-k-eq-IN c = search for_next
