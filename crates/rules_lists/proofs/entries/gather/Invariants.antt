use Prim.Native.Nat.{◌-◌}
use Rattle.rules_lists.proofs.EntryNeeds.{Gathering}
use Rattle.rules_lists.proofs.entries.gather.Given as goal

abbrev pub invariant-loop-at : goal.invariant-loop-at
invariant-loop-at l = Gathering l.file l.from l.to l.what l.initial.room l.upto l.room l.at l.n

abbrev pub decreases-loop-at : goal.decreases-loop-at
decreases-loop-at l = l.to - l.at
