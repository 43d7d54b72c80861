-- A list written over the front of an area.
-- Assumes nothing.
use Rattle.std.specs.Prelude.{ℕ, List, [], ◌∷◌}

-- as much of the list as fits; the rest of the area is as it was
abbrev pub over : List ℕ → List ℕ → List ℕ
over [] area = area
over (x ∷ xs) [] = []
over (x ∷ xs) (a ∷ area) = x ∷ over xs area
