use Prim.Native.Nat.{◌-◌, ◌+◌}
use mathlib.Core.Path.{◌≡◌}
use lib.ListN.{length}
use Rattle.ledger.specs.Inside.{slot_before}
use Rattle.ledger.proofs.GapLaws.{Gaps}
use Rattle.ledger.proofs.updates.compact.Given as goal

abbrev pub invariant-loop-r : goal.invariant-loop-r
invariant-loop-r l = (l.t ≡ slot_before l.file l.deletes (l.d + 1)) × Gaps l.file l.deletes l.initial.ledger l.n l.ledger l.w l.r l.d

abbrev pub decreases-loop-r : goal.decreases-loop-r
decreases-loop-r l = l.n - l.r + (length l.deletes - l.d)
