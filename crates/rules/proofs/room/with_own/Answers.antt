use Rattle.rules.proofs.RoomNeeds.{for_with_own}
use Rattle.rules.proofs.room.with_own.Goals as goal

pub returns-then-has_own-clause-own_held : goal.returns-then-has_own-clause-own_held
returns-then-has_own-clause-own_held c = search for_with_own
