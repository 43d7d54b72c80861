use Prim.Native.Nat.{◌-◌, ◌≤◌}
use mathlib.Core.Path.{◌≡◌}
use lib.ListN.{length, take, drop}
use Rattle.book.specs.Book.{code_width}
use Rattle.book.proofs.RunLaws.{RunTo}
use Rattle.book.proofs.well_formed.run.Given as goal

abbrev pub invariant-loop-at : goal.invariant-loop-at
invariant-loop-at l = (l.from ≤ l.at) × (l.at ≤ length l.book) × (l.was ≤ l.till) × (l.till ≤ length l.book) × (l.w ≡ code_width l.k) × (l.w ≤ 40) × RunTo l.book l.from l.k (take (l.till - l.was) (drop l.was l.book)) l.at

abbrev pub decreases-loop-at : goal.decreases-loop-at
decreases-loop-at l = length l.book - l.at
