use mathlib.Core.Path.{◌≡◌}
use Prim.Native.Nat.{◌-◌}
use lib.ListN.{length}
use Rattle.rules.specs.Look.{setting_by}
use Rattle.rules.specs.Room.{ListsAre}
use Rattle.rules.proofs.GatherNeeds.{Gathering}
use Rattle.rules.proofs.file_walk.walk.Given as goal

abbrev pub invariant-loop-at : goal.invariant-loop-at
invariant-loop-at l = (length l.marks ≡ 30) × (length l.room ≡ length l.initial.room) × (ListsAre l.file l.room l.lists) × Gathering (setting_by l.by l.book l.ledger) l.file l.table l.initial.area l.initial.firsts l.at l.st l.findings l.area l.firsts l.blocks

abbrev pub decreases-loop-at : goal.decreases-loop-at
decreases-loop-at l = length l.file - l.at
