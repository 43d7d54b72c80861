use Prim.Native.Nat.{◌+◌}
use mathlib.Core.Path.{◌≡◌}
use lib.ListN.{drop}
use Rattle.lines_fields.specs.Lines.{text_len}
use Rattle.lines_fields.proofs.line.text_end.Given as goal

abbrev pub invariant-loop-i : goal.invariant-loop-i
invariant-loop-i l = l.at + text_len (drop l.at l.file) ≡ l.i + text_len (drop l.i l.file)
