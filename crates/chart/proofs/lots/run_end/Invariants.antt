use Rattle.chart.proofs.LotNeeds.{Ending}
use Rattle.chart.proofs.lots.run_end.Given as goal

abbrev pub invariant-loop-j : goal.invariant-loop-j
invariant-loop-j l = Ending l.chart l.lots l.i l.lot l.j
