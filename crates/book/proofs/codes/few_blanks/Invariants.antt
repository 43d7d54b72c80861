use Prim.Native.Nat.{◌+◌}
use Rattle.book.specs.Inside.{Blank}
use Rattle.book.proofs.codes.few_blanks.Given as goal

abbrev pub invariant-loop-b : goal.invariant-loop-b
invariant-loop-b l = Blank l.book l.at (l.at + l.b-index)
