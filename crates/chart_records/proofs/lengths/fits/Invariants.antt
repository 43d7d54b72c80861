use mathlib.Core.Path.{◌≡◌}
use Prim.Native.Nat.{◌+◌, ◌-◌, ◌≤◌}
use lib.ListN.{length, drop}
use Rattle.chart_definitions.specs.Charts.{charted_in}
use Rattle.chart_records.specs.Reading.{fits_in}
use Rattle.chart_records.specs.Inside.{rest_fits}
use Rattle.chart_records.proofs.lengths.fits.Given as goal

abbrev pub invariant-loop-at : goal.invariant-loop-at
invariant-loop-at l = (l.at ≤ length l.chart) × (l.n ≤ l.at + 1) × (fits_in l.chart l.room ≡ rest_fits l.n l.left (charted_in (drop l.at l.chart)))

abbrev pub decreases-loop-at : goal.decreases-loop-at
decreases-loop-at l = length l.chart - l.at
