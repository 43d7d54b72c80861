use Rattle.rules_lists.proofs.ListNeeds.{for_has_count}
use Rattle.rules_lists.proofs.has_count.Goals as goal

pub returns-then-same : goal.returns-then-same
returns-then-same c = search for_has_count

pub returns-else-same : goal.returns-else-same
returns-else-same c = search for_has_count
