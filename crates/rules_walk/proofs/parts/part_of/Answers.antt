use Rattle.rules_walk.proofs.PartNeeds.{for_part_of}
use Rattle.rules_walk.proofs.parts.part_of.Goals as goal
use Rattle.rules_walk.proofs.parts.part_of.Goals.{then-is_typed, else-is_typed}

pub loop-p-preserved : goal.loop-p-preserved
loop-p-preserved c =
    elim c.if-is_typed.branch [ then-is_typed w ↦ rw (w.out-is, w.n-is) (search for_part_of) | else-is_typed w ↦ rw (w.out-is, w.n-is) (search for_part_of) ]

pub returns-clause-value : goal.returns-clause-value
returns-clause-value c = search for_part_of

pub returns-clause-out_after : goal.returns-clause-out_after
returns-clause-out_after c = search for_part_of
