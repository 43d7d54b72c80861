use Rattle.rules.proofs.MadeNeeds.{for_apart_in}
use Rattle.rules.proofs.room.apart_in.Goals as goal

pub returns-in-Some : goal.returns-in-Some
returns-in-Some c = search for_apart_in
