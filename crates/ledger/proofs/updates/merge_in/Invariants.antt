use mathlib.Core.Path.{◌≡◌}
use Prim.Native.Nat.{◌+◌}
use lib.ListN.{length}
use Rattle.ledger.specs.Inside.{slot_before}
use Rattle.ledger.proofs.BackLaws.{Back}
use Rattle.ledger.proofs.updates.merge_in.Given as goal

abbrev pub invariant-loop-j : goal.invariant-loop-j
invariant-loop-j l = (l.all ≡ l.n + length l.adds) × (l.t ≡ slot_before l.file l.adds l.j) × Back l.file l.adds l.initial.ledger l.n l.ledger l.i l.j

abbrev pub decreases-loop-j : goal.decreases-loop-j
decreases-loop-j l = l.i + l.j
