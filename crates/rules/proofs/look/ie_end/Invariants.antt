use Prim.Native.Nat.{◌-◌, ◌≤◌, ◌<◌}
use mathlib.Core.Path.{◌≡◌}
use mathlib.Core.Bool.{true}
use mathlib.Core.List.{◌++◌}
use lib.ListN.{length, take, drop}
use Rattle.house.specs.Text.{front}
use Rattle.lines.specs.Records.{is_kind, recs}
use Rattle.lines.specs.Inside.{whole}
use Rattle.lines_fields.specs.Inside.{part}
use Rattle.rules.proofs.look.ie_end.Given as goal

abbrev pub invariant-loop-at : goal.invariant-loop-at
invariant-loop-at l = (l.from ≤ l.at) × (l.at ≤ length l.file) × (l.at < length l.file → whole (take l.at l.file) ≡ true) × (front (is_kind 5) (recs (drop l.from l.file)) ≡ recs (part l.file l.from l.at) ++ front (is_kind 5) (recs (drop l.at l.file)))

abbrev pub decreases-loop-at : goal.decreases-loop-at
decreases-loop-at l = length l.file - l.at
