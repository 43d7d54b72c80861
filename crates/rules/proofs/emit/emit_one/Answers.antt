use Rattle.rules.proofs.EmitNeeds.{for_emit_one}
use Rattle.rules.proofs.emit.emit_one.Goals as goal

pub returns-then-r-eq0-clause-area_after : goal.returns-then-r-eq0-clause-area_after
returns-then-r-eq0-clause-area_after c = search for_emit_one

pub returns-clause-area_after : goal.returns-clause-area_after
returns-clause-area_after c = search for_emit_one
