use Rattle.rules_walk.proofs.PartNeeds.{Keeping}
use Rattle.rules_walk.proofs.parts.keep.Given as goal

abbrev pub invariant-loop-i : goal.invariant-loop-i
invariant-loop-i l = Keeping l.file l.letter l.initial.places l.places l.i l.n
