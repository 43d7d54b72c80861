use Rattle.rules.proofs.EmitNeeds.{for_emit}
use Rattle.rules.proofs.emit.emit.Goals as goal

pub returns-then-is_none-clause-area_after : goal.returns-then-is_none-clause-area_after
returns-then-is_none-clause-area_after c = search for_emit

pub returns-clause-area_after : goal.returns-clause-area_after
returns-clause-area_after c = search for_emit
