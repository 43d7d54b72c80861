use lib.ListN.{drop}
use mathlib.Core.Path.{◌≡◌}
use Prim.Native.Nat.{◌-◌}
use Rattle.house.specs.Inside.{no_rise}
use Rattle.house.proofs.PadLaws.{steady_in}
use Rattle.house.proofs.ranges.no_rise.Given as goal

abbrev pub invariant-loop-i : goal.invariant-loop-i
invariant-loop-i l = no_rise l.text ≡ steady_in l.rises (drop (l.i - 1) l.text)
