use mathlib.Core.Path.{◌≡◌}
use Prim.Native.Nat.{◌-◌, ◌≤◌}
use lib.ListN.{length, drop}
use Rattle.lines.specs.Records.{recs}
use Rattle.rules_lists.specs.Among.{in_step}
use Rattle.rules_lists.proofs.rule13_in_step.Given as goal

abbrev pub invariant-loop-at : goal.invariant-loop-at
invariant-loop-at l = (l.at ≤ length l.own) × (l.by ≤ length l.first) × (in_step (recs l.own) (recs l.first) ≡ in_step (recs (drop l.at l.own)) (recs (drop l.by l.first)))

abbrev pub decreases-loop-at : goal.decreases-loop-at
decreases-loop-at l = length l.own - l.at
