use mathlib.Core.Path.{◌≡◌}
use lib.ListN.{drop}
use Rattle.house.specs.Text.{all, is_blank}
use Rattle.blanks.proofs.BlankLaws.{blanks_in}
use Rattle.blanks.proofs.all_blank.Given as goal

abbrev pub invariant-loop-b : goal.invariant-loop-b
invariant-loop-b l = all is_blank l.text ≡ blanks_in l.others (drop l.b-index l.text)
