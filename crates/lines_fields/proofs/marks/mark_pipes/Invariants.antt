use Prim.Native.Nat.{◌-◌, ◌≤◌}
use lib.ListN.{length, take, drop}
use Rattle.lines_fields.specs.Lines.{line_of}
use Rattle.lines_fields.specs.Inside.{Marking}
use Rattle.lines_fields.proofs.marks.mark_pipes.Given as goal

abbrev pub invariant-loop-i : goal.invariant-loop-i
invariant-loop-i l = (l.at ≤ l.i) × (l.i ≤ l.end) × (l.end ≤ length l.file) × Marking l.at (line_of (drop l.at l.file)).text l.i l.n (take (l.end - l.i) (drop l.i l.file)) l.marks
