use mathlib.Core.Path.{◌≡◌}
use Prim.Native.Nat.{◌-◌}
use Rattle.book.specs.LookUp.{hash_kinds}
use Rattle.book.proofs.hash_table.hash_kinds.Given as goal

abbrev pub invariant-loop-k : goal.invariant-loop-k
invariant-loop-k l = l.table ≡ hash_kinds l.book l.sections (l.k - 1) l.initial.table
