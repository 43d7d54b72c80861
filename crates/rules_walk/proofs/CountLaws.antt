-- How many places an index and its parts have.
-- Assumes nothing.
use mathlib.Core.Path.{◌≡◌, ◌∙◌}
use mathlib.Core.List.{List, []}
use Prim.Native.Nat.{ℕ, ◌≤◌}
use native.Mathlib.Nat.{add-zero}
use lib.ListN.{length}
use Rattle.house.specs.Text.{Text}
use Rattle.lines_places.specs.Events.{event_at}
use Rattle.lines_places.proofs.Order.{length_place}
use Rattle.ledger.proofs.FoundLaws.{those_le}
use Rattle.rules_walk.specs.Firsts.{firsts_of, index_of, is_typed, part_of}

-- the index has a place for each block
pub index_size : (f : Text) → length (index_of f) ≡ length (firsts_of f)
unfolding index_of
index_size f = length_place (event_at f) (firsts_of f) [] ∙ add-zero (length (firsts_of f))

-- a part of some places has no more of them
pub part_few : (f : Text) (type : ℕ) (ps : List ℕ) → length (part_of f type ps) ≤ length ps
unfolding part_of
part_few f type ps = those_le (is_typed f type) ps
