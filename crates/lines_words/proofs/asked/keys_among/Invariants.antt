use mathlib.Core.Path.{◌≡◌}
use lib.ListN.{drop}
use Rattle.lines_words.specs.Words.{key_at, keys_among}
use Rattle.lines_words.proofs.asked.keys_among.Given as goal

abbrev pub invariant-loop-e : goal.invariant-loop-e
invariant-loop-e l = keys_among (key_at l.what l.file) l.entries l.others ≡ keys_among (key_at l.what l.file) (drop l.e-index l.entries) l.others
