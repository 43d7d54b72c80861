use Rattle.chart.proofs.LotNeeds.{Each}
use Rattle.chart.proofs.lots.put_each.Given as goal

abbrev pub invariant-loop-lot : goal.invariant-loop-lot
invariant-loop-lot l = Each l.chart l.lots l.initial.spot l.initial.out l.lot-index l.spot.number l.spot.pos l.out
