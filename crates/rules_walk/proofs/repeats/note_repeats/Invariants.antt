use Rattle.rules_walk.proofs.RepeatNeeds.{Noting}
use Rattle.rules_walk.proofs.repeats.note_repeats.Given as goal

abbrev pub invariant-loop-p : goal.invariant-loop-p
invariant-loop-p l = Noting l.file l.index l.rest l.initial.table l.table l.p-index l.last
