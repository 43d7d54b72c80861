-- What the crate's own functions answer: cited by private contracts and by laws alone. No public contract rests on this page.
-- Assumes nothing.
use Rattle.std.specs.Prelude.{ℕ, ◌+◌, ◌-◌, ◌/◌, Bool, false, cond, ◌&&◌, List, [], ◌++◌, Option, Some, None, length, set, eqb, ltb, leb}
use Rattle.house.specs.Text.{Text, all, is_blank, joined}
use Rattle.lines.specs.Lines.{pipe}
use Rattle.chart_definitions.specs.Charts.{Charted, widths_of, cut, is_field_byte, well_formed, ordered}
use Rattle.chart_definitions.specs.Submissions.{piped, line_text, records_text, footer_fields, RECORD, ROOM}
use Rattle.chart_records.specs.Reading.{record_end, comment_start, has_no_comment, note_width, note_bound}
-- the crates above name them from here too
unfoldable pub use Rattle.chart_records.specs.Reading.{charted_at, right_after}

-- a byte where the greatest is looked for: a pipe counts as the greatest of all
unfoldable pub lifted_of : ℕ → ℕ
lifted_of b = cond (eqb b pipe) 255 b

-- the form of bytes: 0 where not each may stand in a field, 1 where all are blanks, else 2
unfoldable pub form_of : Text → ℕ
form_of t = cond (all is_field_byte t) (cond (all is_blank t) 1 2) 0

-- and so where the bytes before these are no less than l and no greater than h, a blank being among them
unfoldable pub form_in : ℕ → ℕ → Text → ℕ
form_in l h t = cond (ltb l 32) 0 (cond (ltb 126 h) 0 (cond (all is_field_byte t) (cond (ltb 32 h) 2 (cond (all is_blank t) 1 2)) 0))

-- where the given fields of the record at a position end: before the comment of an immunization that has none
unfoldable pub given_end : Text → ℕ → ℕ
given_end s at = cond (has_no_comment (charted_at s at)) (at + 1 + comment_start) (record_end s at)

-- the notes with that of a position, where given fields end where the comment of an immunization starts
unfoldable pub note_if : ℕ → ℕ → List ℕ → List ℕ
note_if at end notes = cond (eqb end (at + 1 + comment_start) && ltb at note_bound) (set notes (at / note_width) (at + 1)) notes

-- these records are of right form, and their order is right after one of kind p
unfoldable pub right_from : ℕ → List Charted → Bool
right_from p rs = all well_formed rs && ordered p rs

-- how many bytes are written of fields of these widths
unfoldable pub cut_length : List ℕ → Text → ℕ
cut_length ws t = length (joined piped (cut ws t))

-- and of those of a record
unfoldable pub given_length : Charted → ℕ
given_length r = cut_length (widths_of r.kind) r.body

-- how long the lines of these records are from number n on, with the footer
unfoldable pub rest_length : ℕ → List Charted → ℕ
rest_length n rs = length (records_text n rs ++ line_text (footer_fields (length rs + (n + 2))))

-- they take so many bytes at most
unfoldable pub rest_fits : ℕ → ℕ → List Charted → Bool
rest_fits n left rs = leb (rest_length n rs) left

-- what is left of the room behind a line of so many bytes: nothing where it has run out
unfoldable pub left_after : Option ℕ → ℕ → Option ℕ
left_after None long = None
left_after (Some left) long = cond (ltb left long) None (Some (left - long))

-- so much is left for these records, the first being number n, and the footer
unfoldable pub left_fits : ℕ → Option ℕ → List Charted → Bool
left_fits n None rs = false
left_fits n (Some left) rs = rest_fits n left rs

-- what measuring answers where it ends, by whether the chart is right; n would be the number of the next record
unfoldable pub answer_of : Bool → ℕ → Option ℕ → ℕ
answer_of right n left = cond right (cond (left_fits n left []) 0 ROOM) RECORD

-- what it answers, where these records are left, the first being number n and the one before it of kind p
unfoldable pub measured_from : ℕ → ℕ → Option ℕ → List Charted → ℕ
measured_from p n left rs = cond (right_from p rs) (cond (left_fits n left rs) 0 ROOM) RECORD
