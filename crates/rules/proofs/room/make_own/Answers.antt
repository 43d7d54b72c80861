use Rattle.rules.proofs.RoomNeeds.{for_make_own}
use Rattle.rules.proofs.room.make_own.Goals as goal

pub returns-clause-lists_are_2 : goal.returns-clause-lists_are_2
returns-clause-lists_are_2 c = search for_make_own

pub returns-clause-own_value : goal.returns-clause-own_value
returns-clause-own_value c = search for_make_own
