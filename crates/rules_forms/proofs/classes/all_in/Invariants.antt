use mathlib.Core.Path.{◌≡◌}
use mathlib.Core.Bool.{Bool}
use Prim.Native.Nat.{ℕ}
use lib.ListN.{drop}
use Rattle.house.specs.Text.{all}
use Rattle.rules_forms.specs.Classes.{Computes}
use Rattle.rules_forms.proofs.classes.all_in.Given as goal

abbrev pub invariant-loop-b : goal.invariant-loop-b
invariant-loop-b g l = (p : ℕ → Bool) → Computes (goal.F-post g l.test) p → all p l.t ≡ all p (drop l.b-index l.t)
