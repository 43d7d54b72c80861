use Prim.Native.Nat.{◌-◌}
use lib.ListN.{length}
use Rattle.chart.proofs.LotNeeds.{Gathering}
use Rattle.chart.proofs.lots.gather.Given as goal

abbrev pub invariant-loop-from : goal.invariant-loop-from
invariant-loop-from l = Gathering l.chart l.at l.initial.places l.from l.n l.places

abbrev pub decreases-loop-from : goal.decreases-loop-from
decreases-loop-from l = length l.chart - l.from
