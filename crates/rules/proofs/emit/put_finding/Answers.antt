use Rattle.rules.proofs.EmitNeeds.{for_put}
use Rattle.rules.proofs.emit.put_finding.Goals as goal

pub returns-then-count-slots-clause-area_after : goal.returns-then-count-slots-clause-area_after
returns-then-count-slots-clause-area_after c = search for_put

pub returns-clause-area_after : goal.returns-clause-area_after
returns-clause-area_after c = search for_put
