use Prim.Native.Nat.{◌-◌, ◌<◌}
use mathlib.Core.Path.{◌≡◌}
use mathlib.Core.List.{[]}
use Rattle.house.specs.Text.{pad}
use Rattle.lines_words.specs.Words.{hash_bound, hash_from}
use Rattle.lines_words.proofs.hashes.hash_pad.Given as goal

abbrev pub invariant-loop : goal.invariant-loop
invariant-loop l = (l.r < hash_bound) × (hash_from l.h (pad l.n []) ≡ hash_from l.r (pad (l.n - l.counter) []))
