use Rattle.rules.proofs.RoomNeeds.{for_put}
use Rattle.rules.proofs.room.first_put.Goals as goal

pub returns : goal.returns
returns c = search for_put
