use mathlib.Core.Path.{◌≡◌}
use Prim.Native.Nat.{◌-◌, ◌≤◌}
use lib.ListN.{length, drop}
use Rattle.chart_definitions.specs.Charts.{charted_in, is_chart}
use Rattle.chart_records.specs.Inside.{right_from}
use Rattle.chart_records.proofs.form.is_chart.Given as goal

abbrev pub invariant-loop-at : goal.invariant-loop-at
invariant-loop-at l = (l.at ≤ length l.chart) × (is_chart l.chart ≡ right_from l.p (charted_in (drop l.at l.chart)))

abbrev pub decreases-loop-at : goal.decreases-loop-at
decreases-loop-at l = length l.chart - l.at
