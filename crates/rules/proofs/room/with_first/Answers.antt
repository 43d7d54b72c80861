use Rattle.rules.proofs.RoomNeeds.{for_with_first}
use Rattle.rules.proofs.room.with_first.Goals as goal

pub returns-then-has_first-clause-first_value : goal.returns-then-has_first-clause-first_value
returns-then-has_first-clause-first_value c = search for_with_first
