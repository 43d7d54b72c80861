use Rattle.rules.proofs.RoomNeeds.{for_with_lots}
use Rattle.rules.proofs.room.with_lots.Goals as goal

pub returns : goal.returns
returns c = search for_with_lots
