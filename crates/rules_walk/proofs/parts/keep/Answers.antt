use Rattle.rules_walk.proofs.PartNeeds.{for_keep}
use Rattle.rules_walk.proofs.parts.keep.Goals as goal
use Rattle.rules_walk.proofs.parts.keep.Goals.{then-is_typed, else-is_typed}

pub loop-i-preserved : goal.loop-i-preserved
loop-i-preserved c =
    elim c.if-is_typed.branch [ then-is_typed w ↦ rw (w.places-is, w.n-is) (search for_keep) | else-is_typed w ↦ rw (w.places-is, w.n-is) (search for_keep) ]

pub returns-clause-value : goal.returns-clause-value
returns-clause-value c = search for_keep

pub returns-clause-places_after : goal.returns-clause-places_after
returns-clause-places_after c = search for_keep
