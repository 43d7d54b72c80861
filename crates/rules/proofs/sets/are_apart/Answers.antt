use Rattle.rules.proofs.SetNeeds.{for_are_apart}
use Rattle.rules.proofs.sets.are_apart.Goals as goal

pub returns-then-keys_among-2 : goal.returns-then-keys_among-2
returns-then-keys_among-2 c = search for_are_apart

pub returns-else-keys_among-2 : goal.returns-else-keys_among-2
returns-else-keys_among-2 c = search for_are_apart

pub returns-else-keys_among : goal.returns-else-keys_among
returns-else-keys_among c = search for_are_apart
