use Prim.Native.Nat.{◌-◌}
use lib.ListN.{length}
use Rattle.chart_records.proofs.MeasureNeeds.{Measuring}
use Rattle.chart_records.proofs.measures.measure.Given as goal

abbrev pub invariant-loop-at : goal.invariant-loop-at
invariant-loop-at l = Measuring l.chart l.room l.initial.notes l.notes l.left l.at l.n l.p

abbrev pub decreases-loop-at : goal.decreases-loop-at
decreases-loop-at l = length l.chart - l.at
