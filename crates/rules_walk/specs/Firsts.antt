-- The index of blocks: where the first II line of each block starts, by event.
-- Assumes nothing.
use Rattle.std.specs.Prelude.{ℕ, Bool, cond, ◌&&◌, List, [], ◌∷◌, ◌++◌, map, length, take, drop, ltb, leb, Option, Some, None}
use Rattle.house.specs.Text.{Text, any, those, same}
use Rattle.house.specs.Over.{over}
use Rattle.dates.specs.Dates.{is_date}
use Rattle.lines_fields.specs.Lines.{line_of, lines_len}
use Rattle.lines_fields.specs.Marks.{judged_of}
use Rattle.lines.specs.Records.{Rec}
use Rattle.lines_places.specs.Events.{event_at, events_at, ascends}
use Rattle.lines_places.specs.Sorted.{place, places_most, sorted_at, sorted_apart}
use Rattle.ledger.specs.Ledger.{Event}
use Rattle.rules_definitions.specs.Forms.{is_uli, is_type, is_code}
use Rattle.rules_definitions.specs.Contexts.{Context, contexts_in}
use Rattle.rules_definitions.specs.Blocks.{begins}
use Rattle.rules_walk.specs.declared.Built.{Built}

-- these texts of fields 3, 4, 6 and 8 of an II are sound
unfoldable pub sound_four : Text → Text → Text → Text → Bool
sound_four uli kind date vaccine = is_uli uli && (is_type kind && (is_date date && is_code vaccine))

-- where the line starts that has these lines before it
abbrev pub start_after : Text → List Rec → ℕ
start_after f before = lines_len (length before) f

-- the line is the first II of a block
abbrev pub is_first : Context → Bool
is_first h = begins h.line h.before

-- where a line starts
abbrev pub start_of : Text → Context → ℕ
start_of f h = start_after f h.before

-- where the first II line of each block starts, in the file's order
unfoldable pub firsts_of : Text → List ℕ
firsts_of f = map (start_of f) (those is_first (contexts_in f))

-- the index: these, in the order of their events; those of one event in the file's order
unfoldable pub index_of : Text → List ℕ
index_of f = place (event_at f) (firsts_of f) []

-- a first II line that starts before position b names the event
unfoldable pub named_before : Text → ℕ → Event → Bool
named_before f b e = any (λ (p : ℕ). ltb p b && same (event_at f p) e) (firsts_of f)

-- What is written into an area

-- the longest file whose index is built
abbrev pub file_most : ℕ
file_most = 5000000

-- the index is built in an area of n places: the file is not too long, and its blocks are not too many to be sorted or for the area
unfoldable pub can_build : Text → ℕ → Bool
can_build f n = leb (length f) file_most && (leb (length (firsts_of f)) places_most && leb (length (firsts_of f)) n)

-- how many blocks there are, and whether no two of them name one event; none where the index is not built
abbrev pub built : ℕ → Bool → Built
built n d = record { blocks = n; distinct = d }

unfoldable pub built_of : Text → ℕ → Option Built
built_of f n = cond (can_build f n) (Some (built (length (firsts_of f)) (ascends (events_at f (index_of f))))) None

-- the area after: the index in its front. Where the index is not built: the first II lines in the file's order, as many as fit; of a file that
-- is too long none is looked for, and the area is as it was.
unfoldable pub built_in : Text → List ℕ → List ℕ
built_in f area = cond (can_build f (length area)) (over (index_of f) area) (cond (leb (length f) file_most) (over (firsts_of f) area) area)

-- Putting the first n places of an area in order

-- there are so many, and not too many to be sorted
unfoldable pub can_sort_front : List ℕ → ℕ → Bool
can_sort_front area n = leb n places_most && leb n (length area)

unfoldable pub front_of : Text → List ℕ → ℕ → Option Built
front_of f area n = cond (can_sort_front area n) (Some (built n (sorted_apart f (take n area)))) None

unfoldable pub front_in : Text → List ℕ → ℕ → List ℕ
front_in f area n = cond (can_sort_front area n) (sorted_at f (take n area) ++ drop n area) area

-- Submission types

-- the line at position p is of this type, a byte
unfoldable pub is_typed : Text → ℕ → ℕ → Bool
is_typed f type p = same (judged_of (line_of (drop p f)).text 4) (type ∷ [])

-- those of these positions whose lines are of this type
unfoldable pub part_of : Text → ℕ → List ℕ → List ℕ
part_of f type ps = those (is_typed f type) ps
