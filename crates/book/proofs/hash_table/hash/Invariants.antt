use mathlib.Core.Path.{◌≡◌}
use Prim.Native.Nat.{◌<◌}
use lib.ListN.{drop}
use Rattle.book.specs.LookUp.{hash_of}
use Rattle.book.proofs.hash_table.hash.Given as goal

abbrev pub invariant-loop-i : goal.invariant-loop-i
invariant-loop-i l = (l.h < 32768) × (l.h ≡ hash_of (drop l.i l.text))
