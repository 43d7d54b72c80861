use Prim.Native.Nat.{◌-◌, ◌≤◌}
use lib.ListN.{length}
use Rattle.vectors_book.proofs.say_asked.Given as goal

abbrev pub invariant-loop-at : goal.invariant-loop-at
invariant-loop-at g l = l.at ≤ length l.asks

abbrev pub decreases-loop-at : goal.decreases-loop-at
decreases-loop-at g l = length l.asks - l.at
