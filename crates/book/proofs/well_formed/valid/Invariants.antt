use Prim.Native.Nat.{◌≤◌}
use mathlib.Core.Path.{◌≡◌}
use lib.ListN.{length}
use Rattle.book.proofs.RunLaws.{Upto}
use Rattle.book.proofs.well_formed.valid.Given as goal

abbrev pub invariant-loop-k : goal.invariant-loop-k
invariant-loop-k l = (l.at ≤ length l.book) × (length l.starts ≡ 9) × Upto l.book l.at l.k l.starts
