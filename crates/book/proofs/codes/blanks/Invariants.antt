use Prim.Native.Nat.{◌≤◌}
use Rattle.book.specs.Inside.{Blank}
use Rattle.book.proofs.codes.blanks.Given as goal

abbrev pub invariant-loop-i : goal.invariant-loop-i
invariant-loop-i l = (l.at ≤ l.i) × Blank l.book l.at l.i
