-- What judging a file leaves, for any bytes that are lent: its answer, the index in the room, and the findings area.
-- Assumes nothing.
use Rattle.std.specs.Prelude.{ℕ, cond, ◌≡◌, List, [], leb, length, Option, Some, None}
use Rattle.house.specs.Text.{Text, how_many}
use Rattle.lines.specs.Records.{IN, is_kind, recs}
use Rattle.rules_definitions.specs.Seen.{Setting}
use Rattle.rules_definitions.specs.Findings.{Finding, findings_of, area_after}
use Rattle.rules_walk.specs.Firsts.{file_most, firsts_of, index_of, can_build, built_in}
use Rattle.house.specs.Over.{over}
use Rattle.rules.specs.declared.Judged.{Judged}
use Rattle.rules.specs.declared.By.{By}
use Rattle.rules.specs.Look.{setting_by}
use Rattle.rules.specs.Under.{findings_under}

-- the findings of a file, by what look-ups find in the book's sections and in the first slots of the ledger, those said to be live
unfoldable pub findings_by : Text → Text → By → Text → List Finding
findings_by file book by ledger = findings_of (setting_by by book ledger) file

-- how many blocks, findings and IN records there are
abbrev pub judged : ℕ → ℕ → ℕ → Judged
judged b n m = record { blocks = b; findings = n; not_immunized = m }

-- the answer, in a room of so many places; none where the file is too long, or its blocks are too many
unfoldable pub judged_of : Text → Text → By → Text → ℕ → Option Judged
judged_of file book by ledger room =
    cond (can_build file room) (Some (judged (length (firsts_of file)) (length (findings_by file book by ledger)) (how_many (is_kind IN) (recs file)))) None

-- the findings area after: as it was where the file is too long; where its blocks are too many for the room, with all findings but those of
-- rule 15
unfoldable pub judged_area : Text → Text → By → Text → ℕ → Text → Text
judged_area file book by ledger room area =
    cond (can_build file room) (area_after area (findings_by file book by ledger))
    (cond (leb (length file) file_most) (area_after area (findings_under (setting_by by book ledger) file [])) area)

-- what a walk over a file finds by a table of the blocks whose events were named before: how many findings, and the area after
pub record FoundIs (s : Setting) (file table area : Text) (r : ℕ) (after : Text) : Type 0 where
  pub count_is_lem : r ≡ length (findings_under s file table)
  pub area_is : after ≡ area_after area (findings_under s file table)

-- the same, and what else a walk leaves: the first places of its blocks are written to the front of an area
pub record WalkIs (s : Setting) (file table area : Text) (old : List ℕ) (r : Judged) (after : Text) (firsts : List ℕ) : Type 0 where
  pub found_is : FoundIs s file table area r.findings after
  pub blocks_are : r.blocks ≡ length (firsts_of file)
  pub not_immunized_is : r.not_immunized ≡ how_many (is_kind IN) (recs file)
  pub firsts_are : firsts ≡ over (firsts_of file) old

-- no room for lists has more places
abbrev pub room_most : ℕ
room_most = 555556

-- no table by position has more entries
abbrev pub table_most : ℕ
table_most = 312500

-- what a walk over a file finds by an index, if that is the file's own: the file's findings
pub record AgainIs (s : Setting) (file : Text) (index : List ℕ) (area : Text) (r : ℕ) (after : Text) : Type 0 where
  pub own_is : index ≡ index_of file → (r ≡ length (findings_of s file)) × (after ≡ area_after area (findings_of s file))

-- what judging a file that is not too long leaves: its answer, the room and the area
pub record Judging (file book : Text) (by : By) (ledger : Text) (room : List ℕ) (area : Text) (r : Option Judged) (index : List ℕ) (after : Text) : Type 0 where
  pub answer : r ≡ judged_of file book by ledger (length room)
  pub room_is : index ≡ built_in file room
  pub area_is : after ≡ judged_area file book by ledger (length room) area

-- the same, once a walk has gathered its blocks in the room and left the area so
pub record Sorting (file book : Text) (by : By) (ledger : Text) (w : Judged) (new : List ℕ) (left : Text) (r : Option Judged) (index : List ℕ) (after : Text) : Type 0 where
  pub judging : (room : List ℕ) (area : Text) → WalkIs (setting_by by book ledger) file [] area room w left new
      → Judging file book by ledger room area r index after
