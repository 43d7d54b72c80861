use lib.ListN.{drop}
use mathlib.Core.Path.{◌≡◌}
use Rattle.house.specs.Text.{all, within}
use Rattle.house.proofs.PadLaws.{range_in}
use Rattle.house.proofs.ranges.all_within.Given as goal

abbrev pub invariant-loop-b : goal.invariant-loop-b
invariant-loop-b l = all (within l.lo l.hi) l.text ≡ range_in l.lo l.hi l.low l.high (drop l.b-index l.text)
