use Prim.Native.Nat.{◌≤◌, ◌+◌}
use mathlib.Core.Path.{◌≡◌}
use lib.ListN.{drop}
use Rattle.lines_fields.specs.Lines.{fields_len}
use Rattle.lines_fields.proofs.fields.field_start.Given as goal

abbrev pub invariant-loop-i : goal.invariant-loop-i
invariant-loop-i l = (1 ≤ l.left) × (fields_len l.f l.text ≡ l.i + fields_len l.left (drop l.i l.text))
