use Prim.Native.Nat.{◌+◌, ◌≤◌}
use mathlib.Core.Path.{◌≡◌}
use lib.ListN.{length, drop}
use Rattle.writing.specs.Writing.{over_from}
use Rattle.chart.proofs.areas.put_text.Given as goal

abbrev pub invariant-loop-i : goal.invariant-loop-i
invariant-loop-i l = (l.i ≤ length l.text) × ((length l.out ≡ length l.initial.out) × (over_from l.at l.text l.initial.out ≡ over_from (l.at + l.i) (drop l.i l.text) l.out))
