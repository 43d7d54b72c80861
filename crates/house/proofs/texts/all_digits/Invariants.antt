use mathlib.Core.Bool.{◌&&◌}
use mathlib.Core.Path.{◌≡◌}
use lib.ListN.{drop}
use Rattle.house.specs.Text.{all, digits}
use Rattle.house.proofs.texts.all_digits.Given as goal

abbrev pub invariant-loop-c : goal.invariant-loop-c
invariant-loop-c l = digits l.text ≡ (all digits (drop l.c-index l.eights) && digits l.rest)
