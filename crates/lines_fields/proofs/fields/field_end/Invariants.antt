use Rattle.lines_fields.proofs.AtNeeds.{end_in}
use Prim.Native.Nat.{◌+◌}
use mathlib.Core.Path.{◌≡◌}
use lib.ListN.{length, drop}
use Rattle.lines_fields.specs.Lines.{line_of, fields_of, field_of}
use Rattle.lines_fields.proofs.fields.field_end.Given as goal

abbrev pub invariant-loop-i : goal.invariant-loop-i
invariant-loop-i l = l.at + length (field_of (line_of (drop l.at l.file)).text 1) ≡ end_in l.at l.i (fields_of (line_of (drop l.i l.file)).text)
