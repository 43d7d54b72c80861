use Rattle.rules.proofs.AgainNeeds.{for_ask_lot}
use Rattle.rules.proofs.lots.ask_lot.Goals as goal

pub returns-clause-lot_asked : goal.returns-clause-lot_asked
returns-clause-lot_asked c = search for_ask_lot
