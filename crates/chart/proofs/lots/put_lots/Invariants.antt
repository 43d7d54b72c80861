use Prim.Native.Nat.{◌-◌}
use lib.ListN.{length}
use Rattle.chart.proofs.EventNeeds.{Lotting}
use Rattle.chart.proofs.lots.put_lots.Given as goal

abbrev pub invariant-loop-spot : goal.invariant-loop-spot
invariant-loop-spot l = Lotting l.chart l.lots l.initial.spot l.initial.out l.spot.at l.spot.number l.spot.pos l.out

abbrev pub decreases-loop-spot : goal.decreases-loop-spot
decreases-loop-spot l = length l.chart - l.spot.at
