use mathlib.Core.Path.{◌≡◌}
use lib.ListN.{drop}
use Rattle.house.specs.Inside.{front_order}
use Rattle.house.proofs.texts.front_order.Given as goal

abbrev pub invariant-loop-i : goal.invariant-loop-i
invariant-loop-i l = front_order l.a l.b ≡ front_order (drop l.i l.a) (drop l.i l.b)
