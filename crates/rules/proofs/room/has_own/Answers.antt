use Rattle.rules.proofs.RoomNeeds.{for_has_own}
use Rattle.rules.proofs.room.has_own.Goals as goal

pub returns-then-own-here : goal.returns-then-own-here
returns-then-own-here c = search for_has_own

pub returns-else-own-here : goal.returns-else-own-here
returns-else-own-here c = search for_has_own

pub returns-else-l : goal.returns-else-l
returns-else-l c = search for_has_own
