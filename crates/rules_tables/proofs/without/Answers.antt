use Rattle.rules_tables.proofs.TableNeeds.{for_without}
use Rattle.rules_tables.proofs.without.Goals as goal

pub returns-then-same-2 : goal.returns-then-same-2
returns-then-same-2 c = search for_without

pub returns-else-same-2 : goal.returns-else-same-2
returns-else-same-2 c = search for_without

pub returns-else-same : goal.returns-else-same
returns-else-same c = search for_without
