use Rattle.rules_lists.proofs.EntryNeeds.{for_lot_start}
use Rattle.rules_lists.proofs.entries.lot_start.Goals as goal

pub returns-clause-upper_bound : goal.returns-clause-upper_bound
returns-clause-upper_bound c = search for_lot_start
