use Rattle.rules.proofs.EmitNeeds.{for_write6}
use Rattle.rules.proofs.emit.write6.Goals as goal

pub returns : goal.returns
returns c = search for_write6
