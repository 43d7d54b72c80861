use Rattle.rules.proofs.RoomNeeds.{for_has_first}
use Rattle.rules.proofs.room.has_first.Goals as goal

pub returns-then-l : goal.returns-then-l
returns-then-l c = search for_has_first

pub returns : goal.returns
returns c = search for_has_first
