use Prim.Native.Nat.{◌≤◌, ◌+◌}
use mathlib.Core.Path.{◌≡◌}
use lib.ListN.{length}
use Rattle.std.specs.Slice.Iter.{chunks_rest, chunks_size}
use Rattle.lines_fields.specs.Lines.{fields_of}
use Rattle.lines_fields.proofs.fields.count_fields.Given as goal

abbrev pub invariant-loop-few : goal.invariant-loop-few
invariant-loop-few l =
    (chunks_size l.few-iterator ≡ 255)
    × (l.n + length (chunks_rest l.few-iterator) ≤ length l.text)
    × (length (fields_of l.text) ≡ l.n + length (fields_of (chunks_rest l.few-iterator)))
