use mathlib.Core.Path.{◌≡◌}
use lib.ListN.{drop}
use Rattle.house.specs.Text.{any, within}
use Rattle.rules_forms.proofs.texts.any_above_zero.Given as goal

abbrev pub invariant-loop-b : goal.invariant-loop-b
invariant-loop-b l = any (within 49 57) l.t ≡ any (within 49 57) (drop l.b-index l.t)
