use Prim.Native.Nat.{◌≤◌, ◌+◌}
use mathlib.Core.Path.{◌≡◌}
use lib.ListN.{length, drop}
use Rattle.lines_fields.specs.Lines.{fields_of}
use Rattle.lines_fields.proofs.fields.count_few.Given as goal

abbrev pub invariant-loop-b : goal.invariant-loop-b
invariant-loop-b l = (l.n ≤ l.b-index) × (length (fields_of l.text) ≡ l.n + length (fields_of (drop l.b-index l.text)))
