use Prim.Native.Nat.{◌≤◌, ◌+◌}
use mathlib.Core.Path.{◌≡◌}
use lib.ListN.{drop}
use Rattle.lines_fields.specs.Lines.{line_of, fields_len}
use Rattle.lines_fields.proofs.fields.start_at.Given as goal

abbrev pub invariant-loop-i : goal.invariant-loop-i
invariant-loop-i l = (1 ≤ l.more) × (l.at + fields_len l.f (line_of (drop l.at l.file)).text ≡ l.i + fields_len l.more (line_of (drop l.i l.file)).text)
