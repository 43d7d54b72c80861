use Rattle.rules.proofs.RoomNeeds.{for_has_first}
use Rattle.rules.proofs.room.same_span.Goals as goal

pub returns-then-p-q : goal.returns-then-p-q
returns-then-p-q c = search for_has_first

pub returns : goal.returns
returns c = search for_has_first
