use Rattle.rules_lists.proofs.ListNeeds.{for_is_lot_sound}
use Rattle.rules_lists.proofs.is_lot_sound.Goals as goal

pub returns : goal.returns
returns c = search for_is_lot_sound
