-- The places of an index that repeat an event, and a table that notes them by position.
-- Assumes nothing.
use Rattle.std.specs.Prelude.{ℕ, ◌/◌, Bool, cond, List, [], ◌∷◌, get_or, set, eqb}
use Rattle.house.specs.Text.{Text, same}
use Rattle.lines_places.specs.Events.{event_at}
use Rattle.ledger.specs.Ledger.{Event}

-- those of these places whose event is that of the place just before; before the first the event is e
unfoldable pub repeats_after : Text → Event → List ℕ → List ℕ
repeats_after f e [] = []
repeats_after f e (p ∷ ps) = cond (same e (event_at f p)) (p ∷ repeats_after f (event_at f p) ps) (repeats_after f (event_at f p) ps)

-- of all the places of an index
unfoldable pub repeats_in : Text → List ℕ → List ℕ
repeats_in f [] = []
repeats_in f (p ∷ ps) = repeats_after f (event_at f p) ps

-- A table of bytes: an entry for each sixteen bytes of the file, in which no two blocks start. It is 1 where one of them is noted.

abbrev pub entry_bytes : ℕ
entry_bytes = 16

abbrev pub noted : ℕ
noted = 1

unfoldable pub is_noted : Text → ℕ → Bool
is_noted table p = eqb (get_or table (p / entry_bytes) 0) noted

-- one place more is noted, if the table goes so far
unfoldable pub note_at : Text → ℕ → Text
note_at table p = set table (p / entry_bytes) noted

unfoldable pub note_all : List ℕ → Text → Text
note_all [] table = table
note_all (p ∷ ps) table = note_all ps (note_at table p)
