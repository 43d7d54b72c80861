use Prim.Native.Nat.{◌-◌}
use lib.ListN.{length}
use Rattle.chart.proofs.RunNeeds.{Fronting}
use Rattle.chart.proofs.runs.put_front.Given as goal

abbrev pub invariant-loop-spot : goal.invariant-loop-spot
invariant-loop-spot l = Fronting l.chart l.a l.b l.initial.spot l.initial.out l.spot.at l.spot.number l.spot.pos l.out

abbrev pub decreases-loop-spot : goal.decreases-loop-spot
decreases-loop-spot l = length l.chart - l.spot.at
