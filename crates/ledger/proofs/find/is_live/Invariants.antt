use Prim.Native.Nat.{◌-◌, ◌≤◌, ◌/◌}
use lib.ListN.{length}
use Rattle.ledger.specs.Ledger.{found_in}
use Rattle.ledger.proofs.LookLaws.{Looks}
use Rattle.ledger.proofs.find.is_live.Given as goal

abbrev pub invariant-loop-lo : goal.invariant-loop-lo
invariant-loop-lo l = (l.hi ≤ length l.ledger / 38) × Looks l.ledger l.key (found_in l.ledger l.live l.key) l.lo l.hi

abbrev pub decreases-loop-lo : goal.decreases-loop-lo
decreases-loop-lo l = l.hi - l.lo
