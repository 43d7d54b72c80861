use Prim.Native.Nat.{◌<◌}
use mathlib.Core.Path.{◌≡◌}
use lib.ListN.{drop}
use Rattle.lines_words.specs.Words.{hash_bound, hash_from}
use Rattle.lines_words.proofs.hashes.hash_on.Given as goal

abbrev pub invariant-loop-b : goal.invariant-loop-b
invariant-loop-b l = (l.r < hash_bound) × (hash_from l.h l.text ≡ hash_from l.r (drop l.b-index l.text))
