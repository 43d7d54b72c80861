use Prim.Native.Nat.{◌≤◌}
use mathlib.Core.Path.{◌≡◌}
use lib.ListN.{length}
use Rattle.lines_words.specs.Words.{key_at}
use Rattle.lines_words.proofs.ApartNeeds.{Keeping}
use Rattle.lines_words.proofs.asked.keep_apart.Given as goal

abbrev pub invariant-loop-i : goal.invariant-loop-i
invariant-loop-i l = (l.n ≤ l.i) × (length l.entries ≡ length l.initial.entries) × Keeping (key_at l.what l.file) l.initial.entries l.entries l.last l.n l.i
