-- Blocks, and the events that they name.
-- "A block is a longest run of II (each with its IE lines) under one IP whose fields 3, 4, 6 and 8 are sound and equal."
-- Assumes nothing.
use Rattle.std.specs.Prelude.{Bool, false, not, cond, ◌&&◌, ◌||◌, List, [], ◌∷◌, map}
use Rattle.house.specs.Text.{Text, bytes, same, any, those}
use Rattle.house.specs.Key.{key_of}
use Rattle.lines.specs.Records.{Rec, II, IE, is_kind}
use Rattle.ledger.specs.Ledger.{Event}
use Rattle.rules_definitions.specs.Forms.{text, is_sound}
use Rattle.rules_definitions.specs.Contexts.{Context, no_rec}

-- "an II with one of the four unsound is in no block"
unfoldable pub is_in_block : Rec → Bool
is_in_block l = is_kind II l && (is_sound II l 3 && (is_sound II l 4 && (is_sound II l 6 && is_sound II l 8)))

-- "Fields 3, 6 and 8 name the event": its key
unfoldable pub event_of : Rec → Event
event_of l = key_of (text l 3) (text l 6) (text l 8)

unfoldable pub same_event : Rec → Rec → Bool
same_event l p = same (text l 3) (text p 3) && (same (text l 6) (text p 6) && same (text l 8) (text p 8))

-- of one event and one type
unfoldable pub joins : Rec → Rec → Bool
joins l p = same (text l 4) (text p 4) && same_event l p

-- the nearest line, or one that is not there, which no sound line joins: its fields are empty
abbrev pub nearest_of : List Rec → Rec
nearest_of [] = no_rec
nearest_of (l ∷ ls) = l

-- the earlier II lines of a line's block, nearest first, where the block that is open before it has these
unfoldable pub block_in : Rec → List Rec → List Rec
block_in l opened = cond (is_in_block l && joins l (nearest_of opened)) opened []

-- the II lines of the block that is still open after these lines, nearest first: IE lines leave it open, and any line but an II that
-- joins it ends it
abbrev pub open_after : List Rec → List Rec
open_after [] = []
open_after (l ∷ before) = cond (is_kind IE l) (open_after before) (cond (is_in_block l) (l ∷ block_in l (open_after before)) [])

-- the line is an II of the block that is open before it
abbrev pub joins_open : Rec → List Rec → Bool
joins_open l before = is_in_block l && joins l (nearest_of (open_after before))

-- the line is the first II of a block
unfoldable pub begins : Rec → List Rec → Bool
begins l before = is_in_block l && not (joins l (nearest_of (open_after before)))

-- a block is open after these lines, and has a second II
abbrev pub has_second : List Rec → Bool
has_second [] = false
has_second (l ∷ before) = cond (is_kind IE l) (has_second before) (joins_open l before)

-- where a block is open after these lines, the IE lines of its first II, nearest first: an IE is one of them until a second II joins; an II
-- that joins adds none; after any other line there are none yet
abbrev pub first_open : List Rec → List Rec
first_open [] = []
first_open (l ∷ before) =
    cond (is_kind IE l) (cond (has_second before) (first_open before) (l ∷ first_open before)) (cond (joins_open l before) (first_open before) [])

-- where a block is open after these lines, the lines before it, nearest first
abbrev pub before_open : List Rec → List Rec
before_open [] = []
before_open (l ∷ before) = cond (is_kind IE l || joins_open l before) (before_open before) before

-- the lines before a line's block, nearest first
unfoldable pub before_block : Rec → List Rec → List Rec
before_block l before = cond (joins_open l before) (before_open before) before

-- an earlier block names the line's event
unfoldable pub is_repeated : Rec → List Rec → Bool
is_repeated l before = is_in_block l && any (λ (p : Rec). is_in_block p && same_event l p) (before_block l before)

-- Submission types

abbrev pub adds : Text
adds = bytes "A"

abbrev pub changes : Text
changes = bytes "C"

abbrev pub deletes : Text
deletes = bytes "D"

-- the line is the first II of a block of this type
unfoldable pub begins_block : Text → Context → Bool
begins_block type h = begins h.line h.before && same (text h.line 4) type

-- the events that the blocks of this type name, a block once, in the file's order
unfoldable pub events_of : Text → List Context → List Event
events_of type hs = map (λ (h : Context). event_of h.line) (those (begins_block type) hs)
