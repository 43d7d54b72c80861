use Prim.Native.Nat.{◌≤◌, ◌<◌, ◌^◌}
use mathlib.Core.Path.{◌≡◌}
use lib.ListN.{length, drop}
use Rattle.rules_forms.specs.TextLeaves.{value_of}
use Rattle.rules_forms.proofs.ValueNeeds.{value_from}
use Rattle.rules_forms.proofs.texts.value.Given as goal

abbrev pub invariant-loop-b : goal.invariant-loop-b
invariant-loop-b l = (l.b-index ≤ length l.t) × (length l.t ≤ 9) × (l.v < 10 ^ l.b-index) × (value_of l.t ≡ value_from l.v (drop l.b-index l.t))
