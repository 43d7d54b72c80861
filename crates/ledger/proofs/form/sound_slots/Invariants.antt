use Prim.Native.Nat.{◌≤◌}
use mathlib.Core.Path.{◌≡◌}
use lib.ListN.{drop}
use Rattle.ledger.specs.Ledger.{slots}
use Rattle.ledger.specs.Inside.{sound_from}
use Rattle.ledger.proofs.form.sound_slots.Given as goal

abbrev pub invariant-loop-i : goal.invariant-loop-i
invariant-loop-i l = (l.live ≤ l.i) × (sound_from 0 (slots l.ledger) ≡ sound_from l.live (drop l.i (slots l.ledger)))
