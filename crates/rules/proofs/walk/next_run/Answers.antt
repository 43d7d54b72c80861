use Rattle.rules.proofs.WalkNeeds.{for_next}
use Rattle.rules.proofs.walk.next_run.Goals as goal

pub returns-then-k-eq-IE : goal.returns-then-k-eq-IE
returns-then-k-eq-IE c = search for_next

pub returns-then-inb : goal.returns-then-inb
returns-then-inb c = search for_next

pub returns-else-inb : goal.returns-else-inb
returns-else-inb c = search for_next
