-- The events that lines name: "Fields 3, 6 and 8 name the event".
-- Assumes nothing.
use Rattle.std.specs.Prelude.{ℕ, Bool, List, map, drop}
use Rattle.house.specs.Text.{Text, adjacent, below}
use Rattle.house.specs.Key.{key_of}
use Rattle.lines_fields.specs.Lines.{line_of}
use Rattle.lines_fields.specs.Marks.{judged_of}

-- the key of the event that a line's text names
unfoldable pub event_of : Text → Text
event_of t = key_of (judged_of t 3) (judged_of t 6) (judged_of t 8)

-- the key of the event that the line at a place names: the line that starts at that position of the file
unfoldable pub event_at : Text → ℕ → Text
event_at s p = event_of (line_of (drop p s)).text

-- the events of the lines at these places
unfoldable pub events_at : Text → List ℕ → List Text
events_at s ps = map (event_at s) ps

-- each event stands below the next
unfoldable pub ascends : List Text → Bool
ascends es = adjacent below es
