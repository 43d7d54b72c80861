use Prim.Native.Nat.{◌-◌, ◌≤◌, ◌+◌}
use mathlib.Core.Path.{◌≡◌}
use lib.ListN.{length, drop}
use Rattle.lines_fields.specs.Lines.{lines_of}
use Rattle.lines.specs.Shape.{shape_from, shape_of}
use Rattle.lines.proofs.faults.shape_of.Given as goal

abbrev pub invariant-loop-at : goal.invariant-loop-at
invariant-loop-at l = (l.at ≤ length l.file) × (l.line ≤ l.at + 1) × (shape_of l.file ≡ shape_from l.line l.p (lines_of (drop l.at l.file)))

abbrev pub decreases-loop-at : goal.decreases-loop-at
decreases-loop-at l = length l.file - l.at
