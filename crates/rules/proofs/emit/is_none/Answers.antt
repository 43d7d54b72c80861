use Rattle.rules.proofs.EmitNeeds.{for_is_none}
use Rattle.rules.proofs.emit.is_none.Goals as goal

pub returns-then-b-eq0-2 : goal.returns-then-b-eq0-2
returns-then-b-eq0-2 c = search for_is_none
