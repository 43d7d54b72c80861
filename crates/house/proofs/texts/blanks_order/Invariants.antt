use mathlib.Core.Path.{◌≡◌}
use lib.ListN.{drop}
use Rattle.house.specs.Inside.{blanks_order}
use Rattle.house.proofs.texts.blanks_order.Given as goal

abbrev pub invariant-loop-b : goal.invariant-loop-b
invariant-loop-b l = blanks_order l.text ≡ blanks_order (drop l.b-index l.text)
