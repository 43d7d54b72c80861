use mathlib.Core.Path.{◌≡◌}
use lib.ListN.{drop}
use Rattle.house.specs.Text.{after_front, is_blank}
use Rattle.blanks.proofs.first_blanks.Given as goal

abbrev pub invariant-loop-i : goal.invariant-loop-i
invariant-loop-i l = after_front is_blank (drop l.i l.text) ≡ after_front is_blank l.text
