use mathlib.Core.Path.{◌≡◌}
use lib.ListN.{take}
use Rattle.blanks.specs.Blanks.{without_last_blanks}
use Rattle.blanks.proofs.last_blanks.Given as goal

abbrev pub invariant-loop-i : goal.invariant-loop-i
invariant-loop-i l = without_last_blanks (take l.i l.text) ≡ without_last_blanks l.text
