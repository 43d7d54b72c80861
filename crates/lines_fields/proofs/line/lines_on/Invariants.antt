use Prim.Native.Nat.{◌-◌, ◌+◌}
use mathlib.Core.Path.{◌≡◌}
use lib.ListN.{drop}
use Rattle.lines_fields.specs.Lines.{lines_len}
use Rattle.lines_fields.proofs.line.lines_on.Given as goal

abbrev pub invariant-loop : goal.invariant-loop
invariant-loop l = l.at + lines_len l.k (drop l.at l.file) ≡ l.start + lines_len (l.k - l.counter) (drop l.start l.file)
