-- Charts as they are read: where a record ends, whether what is written of a chart fits, what measuring a chart answers, and what it notes.
-- Assumes nothing.
use Rattle.std.specs.Prelude.{ℕ, ◌+◌, ◌-◌, ◌/◌, Bool, true, cond, ◌&&◌, List, [], ◌∷◌, ◌++◌, length, get_or, take, drop, set, eqb, ltb, leb}
use Rattle.house.specs.Text.{Text, all, is_blank}
use Rattle.house.specs.Numbers.{lesser_of}
use Rattle.lines.specs.Records.{IH, II}
use Rattle.lines.specs.Shape.{follows}
use Rattle.chart_definitions.specs.Charts.{Charted, record_kind, body_width, charted_in, is_of, well_formed, is_chart}
use Rattle.chart_definitions.specs.Submissions.{line_text, records_text, footer_fields, other_lines, RECORD, ROOM}

-- the record at a position of a chart
unfoldable pub charted_at : Text → ℕ → Charted
charted_at s at = record { kind = record_kind (get_or s at 0); body = take (body_width (record_kind (get_or s at 0))) (drop (at + 1) s) }

-- where the record at a position ends: behind its fields, or where the chart ends before
unfoldable pub record_end : Text → ℕ → ℕ
record_end s at = lesser_of (at + 1 + body_width (record_kind (get_or s at 0))) (length s)

-- a record of right form that may follow one of kind p
unfoldable pub right_after : ℕ → Charted → Bool
right_after p r = well_formed r && follows p r.kind

-- MEASURING

-- the lines of a chart's records and the footer take so many bytes at most; IV and IH are not among them
unfoldable pub fits_in : Text → ℕ → Bool
fits_in s room = leb (length (records_text 1 (charted_in s) ++ line_text (footer_fields (length (charted_in s) + other_lines)))) room

-- what measuring answers: 0, or RECORD for a chart that is not right, or else ROOM where it does not fit
unfoldable pub measured : Text → ℕ → ℕ
measured s room = cond (is_chart s) (cond (fits_in s room) 0 ROOM) RECORD

-- NOTES of immunizations without a comment

-- where the comment of an immunization starts behind its byte of kind
abbrev pub comment_start : ℕ
comment_start = 99

-- an immunization without a comment
unfoldable pub has_no_comment : Charted → Bool
has_no_comment r = is_of II r && all is_blank (drop comment_start r.body)

-- A NOTE is the position of such a record, and 1; 0 is none. Two II stand at least so far apart: an II and its IE
abbrev pub note_width : ℕ
note_width = 1727

-- a number of 32 bits has room for positions below this one
abbrev pub note_bound : ℕ
note_bound = 4294967295

-- it is 0, or there is such a record
unfoldable pub is_note : Text → ℕ → Bool
is_note s x = cond (eqb x 0) true (has_no_comment (charted_at s (x - 1)))

-- the notes with that of the record at a position, where it is such a record
unfoldable pub note_of : ℕ → Charted → List ℕ → List ℕ
note_of at r notes = cond (has_no_comment r && ltb at note_bound) (set notes (at / note_width) (at + 1)) notes

-- what is noted of records, the first at a position, as long as each is of right form and may follow the one before
unfoldable pub notes_from : ℕ → ℕ → List Charted → List ℕ → List ℕ
notes_from at p [] notes = notes
notes_from at p (r ∷ rs) notes = cond (right_after p r) (notes_from (at + 1 + body_width r.kind) r.kind rs (note_of at r notes)) notes

-- of all records of a chart
unfoldable pub notes_of : Text → List ℕ → List ℕ
notes_of s notes = notes_from 0 IH (charted_in s) notes

-- where the given fields of the record at a position end: before the comment of an immunization that is noted, else where the record ends
unfoldable pub noted_end : Text → List ℕ → ℕ → ℕ
noted_end s notes at =
    cond (ltb at (length s)) (cond (eqb (get_or notes (at / note_width) 0) (at + 1)) (at + 1 + comment_start) (record_end s at)) (length s)
