use Rattle.rules.proofs.RoomNeeds.{for_make_first}
use Rattle.rules.proofs.room.make_first.Goals as goal

pub returns-clause-lists_are : goal.returns-clause-lists_are
returns-clause-lists_are c = search for_make_first

pub returns-clause-first_value : goal.returns-clause-first_value
returns-clause-first_value c = search for_make_first
