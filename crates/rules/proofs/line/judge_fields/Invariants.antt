use Rattle.rules.proofs.LineNeeds.{Running}
use Rattle.rules.proofs.line.judge_fields.Given as goal

abbrev pub invariant-loop-f : goal.invariant-loop-f
invariant-loop-f g l = Running (goal.F-post g l.judge) l.here l.last l.count l.initial.area l.f l.c l.area
