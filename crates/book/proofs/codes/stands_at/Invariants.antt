use Rattle.book.specs.Inside.{Stands}
use Rattle.book.proofs.codes.stands_at.Given as goal

abbrev pub invariant-loop-i : goal.invariant-loop-i
invariant-loop-i l = Stands l.book l.at l.text l.i
