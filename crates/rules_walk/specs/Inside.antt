-- What the crate's own functions answer, and what a pass over the lines knows: cited by private contracts and by laws alone. No public
-- contract rests on this page.
-- Assumes nothing.
use Rattle.std.specs.Prelude.{ℕ, suc, ◌+◌, ◌<◌, ◌≡◌, cond, List, [], ◌∷◌, map, length, drop}
use Rattle.house.specs.Text.{Text, those}
use Rattle.lines_fields.specs.Lines.{line_of, line_len}
use Rattle.lines.specs.Records.{Rec, rec_of}
use Rattle.rules_definitions.specs.Contexts.{contexts_from}
use Rattle.rules_definitions.specs.Blocks.{begins}
use Rattle.rules_walk.specs.Firsts.{start_after, is_first, start_of}

-- the line that starts at a position
unfoldable pub rec_at : Text → ℕ → Rec
rec_at f p = rec_of (line_of (drop p f)).text

-- where the line after it starts
unfoldable pub next_line : Text → ℕ → ℕ
next_line f p = p + line_len (drop p f)

-- these are lines of the file from its start on, nearest first
abbrev pub Passed : Text → List Rec → Type 0
Passed f [] = Unit {0}
Passed f (l ∷ before) = (start_after f before < length f) × (l ≡ rec_at f (start_after f before)) × Passed f before

-- the first II lines that are still to come
unfoldable pub firsts_from : Text → List Rec → List Rec → List ℕ
firsts_from f before ls = map (start_of f) (those is_first (contexts_from (suc (length before)) before ls))

-- the first II lines among those passed, nearest first
abbrev pub firsts_in : Text → List Rec → List ℕ
firsts_in f [] = []
firsts_in f (l ∷ before) = cond (begins l before) (start_after f before ∷ firsts_in f before) (firsts_in f before)
