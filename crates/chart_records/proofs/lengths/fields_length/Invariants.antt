use mathlib.Core.Path.{◌≡◌}
use Prim.Native.Nat.{◌+◌, ◌-◌, ◌≤◌}
use lib.ListN.{length, drop}
use Rattle.chart_definitions.specs.Charts.{widths_of}
use Rattle.chart_records.specs.Inside.{cut_length}
use Rattle.chart_records.proofs.lengths.fields_length.Given as goal

abbrev pub invariant-loop-width : goal.invariant-loop-width
invariant-loop-width l =
    (l.at ≤ length l.body) × (l.long ≤ l.at + length l.widths)
    × (cut_length (widths_of l.kind) l.fn.body + (length l.widths - l.width-index) ≡ l.long + cut_length (drop l.width-index l.widths) (drop l.at l.body))
