use Prim.Native.Nat.{◌<◌, ◌≤◌}
use lib.ListN.{length, drop}
use Rattle.lines_fields.specs.Lines.{line_of}
use Rattle.lines_fields.specs.Inside.{Marked}
use Rattle.lines_fields.proofs.marks.mark.Given as goal

abbrev pub invariant-loop-k : goal.invariant-loop-k
invariant-loop-k l = (l.n < l.k) × (l.end ≤ length l.file) × Marked l.at (line_of (drop l.at l.file)).text l.k l.marks
