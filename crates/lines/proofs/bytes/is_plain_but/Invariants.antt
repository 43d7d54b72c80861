use mathlib.Core.Path.{◌≡◌}
use lib.ListN.{drop}
use Rattle.lines.specs.Inside.{plain_but}
use Rattle.lines.proofs.ByteNeeds.{plain_in}
use Rattle.lines.proofs.bytes.is_plain_but.Given as goal

abbrev pub invariant-loop-b : goal.invariant-loop-b
invariant-loop-b l = plain_but l.end l.file ≡ plain_in l.end l.least l.most (drop l.b-index l.file)
