use Rattle.chart.proofs.AreaNeeds.{Digiting}
use Rattle.chart.proofs.areas.put_digits.Given as goal

abbrev pub invariant-loop-i : goal.invariant-loop-i
invariant-loop-i l = Digiting l.n l.at l.initial.out l.i l.rest l.out
