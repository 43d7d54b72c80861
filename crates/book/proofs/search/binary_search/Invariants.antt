use Prim.Native.Nat.{◌-◌, ◌≤◌, ◌*◌}
use lib.ListN.{length}
use Rattle.book.specs.Inside.{code_padded}
use Rattle.book.proofs.SearchLaws.{Seeks}
use Rattle.book.proofs.search.binary_search.Given as goal

abbrev pub invariant-loop-lo : goal.invariant-loop-lo
invariant-loop-lo l = (l.hi ≤ l.n) × (l.n * l.w.entry ≤ length l.book - l.w.from) × Seeks l.book l.kind l.w.from l.n (code_padded l.kind l.a l.b) l.lo l.hi

abbrev pub decreases-loop-lo : goal.decreases-loop-lo
decreases-loop-lo l = l.hi - l.lo
