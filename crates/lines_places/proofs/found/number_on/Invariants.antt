use Rattle.lines_places.proofs.FoundLaws.{Reading}
use Rattle.lines_places.proofs.found.number_on.Given as goal

abbrev pub invariant-loop-j : goal.invariant-loop-j
invariant-loop-j l = Reading l.file l.at l.n l.before l.number l.j
