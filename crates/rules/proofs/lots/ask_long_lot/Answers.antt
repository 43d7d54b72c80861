use Rattle.rules.proofs.AgainNeeds.{for_ask_long_lot}
use Rattle.rules.proofs.lots.ask_long_lot.Goals as goal

pub lot_found-found-requires-clause-at_value : goal.lot_found-found-requires-clause-at_value
lot_found-found-requires-clause-at_value c = search for_ask_long_lot

pub returns-clause-lot_asked : goal.returns-clause-lot_asked
returns-clause-lot_asked c = search for_ask_long_lot
