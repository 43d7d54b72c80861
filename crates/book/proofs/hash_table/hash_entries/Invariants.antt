use mathlib.Core.Path.{◌≡◌}
use Rattle.book.specs.LookUp.{hash_entries}
use Rattle.book.proofs.hash_table.hash_entries.Given as goal

abbrev pub invariant-loop-i : goal.invariant-loop-i
invariant-loop-i l = l.table ≡ hash_entries l.book l.k l.w.from l.i l.initial.table
