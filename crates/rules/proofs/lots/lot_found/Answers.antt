use Rattle.rules.proofs.AgainNeeds.{for_lot_found}
use Rattle.rules.proofs.lots.lot_found.Goals as goal

pub returns-then-l : goal.returns-then-l
returns-then-l c = search for_lot_found

pub returns : goal.returns
returns c = search for_lot_found
