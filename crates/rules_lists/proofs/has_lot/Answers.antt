use Rattle.rules_lists.proofs.ListNeeds.{for_lot}
use Rattle.rules_lists.proofs.has_lot.Goals as goal

pub returns-then-kind_of-ne-II : goal.returns-then-kind_of-ne-II
returns-then-kind_of-ne-II c = search for_lot

pub returns-then-same : goal.returns-then-same
returns-then-same c = search for_lot

pub returns-else-same : goal.returns-else-same
returns-else-same c = search for_lot
