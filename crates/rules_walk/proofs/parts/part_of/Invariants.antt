use Rattle.rules_walk.proofs.PartNeeds.{Parting}
use Rattle.rules_walk.proofs.parts.part_of.Given as goal

abbrev pub invariant-loop-p : goal.invariant-loop-p
invariant-loop-p l = Parting l.file l.letter l.places l.initial.out l.out l.p-index l.n
