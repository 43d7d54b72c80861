use Prim.Native.Nat.{◌+◌, ◌≤◌}
use mathlib.Core.Path.{◌≡◌}
use lib.ListN.{length, drop}
use Rattle.rules_forms.specs.TextLeaves.{digits_len}
use Rattle.rules_forms.proofs.texts.digits_len.Given as goal

abbrev pub invariant-loop-i : goal.invariant-loop-i
invariant-loop-i l = (l.i ≤ length l.t) × (digits_len l.t ≡ l.i + digits_len (drop l.i l.t))
