use Rattle.lines.proofs.ByteNeeds.{stray_in}
use Prim.Native.Nat.{◌-◌, ◌≤◌}
use mathlib.Core.Path.{◌≡◌}
use lib.ListN.{length, drop}
use Rattle.lines.specs.Inside.{no_stray}
use Rattle.lines.proofs.bytes.no_stray.Given as goal

abbrev pub invariant-loop-i : goal.invariant-loop-i
invariant-loop-i l = (1 ≤ l.i) × (l.i ≤ length l.file) × (no_stray l.file ≡ stray_in l.stray (drop (l.i - 1) l.file))
