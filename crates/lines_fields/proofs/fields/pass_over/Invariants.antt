use Prim.Native.Nat.{◌≤◌, ◌+◌}
use mathlib.Core.Path.{◌≡◌}
use lib.ListN.{drop}
use Rattle.std.specs.Slice.Iter.{chunks_exact_rest, chunks_exact_size}
use Rattle.lines_fields.specs.Lines.{fields_len}
use Rattle.lines_fields.proofs.fields.pass_over.Given as goal

abbrev pub invariant-loop-run : goal.invariant-loop-run
invariant-loop-run l =
    (chunks_exact_size l.run-iterator ≡ 16)
    × (chunks_exact_rest l.run-iterator ≡ drop l.p.at l.text)
    × (1 ≤ l.p.left)
    × (fields_len l.f l.text ≡ l.p.at + fields_len l.p.left (drop l.p.at l.text))
