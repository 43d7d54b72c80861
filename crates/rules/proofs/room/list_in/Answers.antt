use Rattle.rules.proofs.MadeNeeds.{for_list_in}
use Rattle.rules.proofs.room.list_in.Goals as goal

pub returns : goal.returns
returns c = search for_list_in
