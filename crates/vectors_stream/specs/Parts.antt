-- The parts of a stream of vectors.
-- Assumes nothing.
use Rattle.std.specs.Prelude.{ℕ, ◌+◌, ◌-◌, ◌≤◌, ◌<◌, ◌≡◌, true, false, cond, ◌&&◌, length, take, drop, leb, List, Bool}
use Rattle.house.specs.Numbers.{four_bytes}
use Rattle.vectors_stream.specs.declared.Part.{Part}

-- the part whose length stands at a position: none where the stream ends before it does
unfoldable pub part_at : List ℕ → ℕ → Part
part_at s at =
    cond (leb (at + 4) (length s) && leb (four_bytes s at) (length s - (at + 4)))
    (record { start = at + 4; end = at + 4 + four_bytes s at; whole = true })
    (record { start = 0; end = 0; whole = false })

pub record PartIs (s : List ℕ) (at : ℕ) (r : Part) : Type 0 where
  pub exact : r ≡ part_at s at
  pub ordered : r.start ≤ r.end
  pub within : r.end ≤ length s
  pub past : r.whole ≡ true → at < r.end

-- the bytes of the part that a stream starts with, and those behind it
pub record FirstIs (s part rest : List ℕ) : Type 0 where
  pub whole : (part_at s 0).whole ≡ true
  pub part_is : part ≡ take ((part_at s 0).end - (part_at s 0).start) (drop (part_at s 0).start s)
  pub rest_is : rest ≡ drop (part_at s 0).end s

-- whether a stream starts with two parts
unfoldable pub two_there : List ℕ → Bool
two_there s = (part_at s 0).whole && (part_at (drop (part_at s 0).end s) 0).whole
