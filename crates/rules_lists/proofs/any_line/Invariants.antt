use mathlib.Core.Path.{◌≡◌}
use mathlib.Core.Bool.{Bool}
use Prim.Native.Nat.{◌-◌, ◌≤◌}
use lib.ListN.{length, drop}
use Rattle.std.specs.Fn.{FnReturnsAt}
use Rattle.house.specs.Text.{any}
use Rattle.lines.specs.Records.{Rec, recs}
use Rattle.rules_lists.specs.Inside.{Tests}
use Rattle.rules_lists.proofs.any_line.Given as goal

abbrev pub invariant-loop-at : goal.invariant-loop-at
invariant-loop-at g l =
    (l.at ≤ length l.text) × ((p : Rec → Bool) → Tests (FnReturnsAt g.F.Fn l.test) p → any p (recs l.text) ≡ any p (recs (drop l.at l.text)))

abbrev pub decreases-loop-at : goal.decreases-loop-at
decreases-loop-at g l = length l.text - l.at
