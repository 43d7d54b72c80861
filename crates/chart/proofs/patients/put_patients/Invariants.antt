use mathlib.Core.Path.{◌≡◌}
use lib.ListN.{length, drop}
use Rattle.chart_definitions.specs.Charts.{charted_in}
use Rattle.chart.proofs.OrderNeeds.{Passing}
use Rattle.chart.proofs.patients.put_patients.Given as goal

abbrev pub invariant-loop-spot : goal.invariant-loop-spot
invariant-loop-spot l = (length l.room ≡ length l.initial.room) × Passing l.chart l.initial.spot l.initial.out l.initial.places l.spot.at l.spot.number l.spot.pos l.out l.places

abbrev pub decreases-loop-spot : goal.decreases-loop-spot
decreases-loop-spot l = length (charted_in (drop l.spot.at l.chart))
