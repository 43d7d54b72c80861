-- The fields of a line found once: thirty numbers, its marks, say where each field stands, and every field is read by them. And the text
-- of a field as judged.
-- Assumes nothing.
use Rattle.std.specs.Prelude.{ℕ, zero, suc, ◌+◌, ◌-◌, Bool, cond, ◌&&◌, List, [], ◌∷◌, length, get_or, drop, eqb, ltb, leb}
use Rattle.house.specs.Text.{Text}
use Rattle.lines_fields.specs.declared.Span.{Span}
use Rattle.lines_fields.specs.Lines.{line_of, fields_of, field_of, fields_len}
use Rattle.lines_fields.specs.Inside.{part}

-- The text of a field as judged: the field as it stands. (Change request 4 drops the blanks at its ends here.)
unfoldable pub judged_text : Text → Text
judged_text t = t

-- field f of a line's text as judged, counted from 1; empty where it is not there
unfoldable pub judged_of : Text → ℕ → Text
judged_of t f = judged_text (field_of t f)

-- MARKS

-- so many numbers
abbrev pub mark_count : ℕ
mark_count = 30

-- the last of them counts the line's fields
abbrev pub count_mark : ℕ
count_mark = 29

-- so many fields are marked: more than any record has
abbrev pub mark_most : ℕ
mark_most = 28

-- so many bytes a file has at most whose lines are marked: a mark is a number of 32 bits
abbrev pub mark_bytes : ℕ
mark_bytes = 4294967295

-- of a line with text t that starts at position at: from number f on n marks, and then how many fields it has. Mark f is where the field
-- after the first f fields starts, or where the text ends.
abbrev pub marks_from : ℕ → ℕ → ℕ → Text → List ℕ
marks_from f zero at t = length (fields_of t) ∷ []
marks_from f (suc n) at t = (at + fields_len f t) ∷ marks_from (suc f) n at t

unfoldable pub marks_of : ℕ → Text → List ℕ
marks_of at t = marks_from 0 count_mark at t

-- the marks of the line of file s that starts at position at
unfoldable pub marks_at : Text → ℕ → List ℕ
marks_at s at = marks_of at (line_of (drop at s)).text

-- what reading that line leaves in a slice m: its marks, or m as it was where these do not fit or there is no such position
unfoldable pub marks_in : Text → ℕ → List ℕ → List ℕ
marks_in s at m = cond (eqb (length m) mark_count && (leb (length s) mark_bytes && leb at (length s))) (marks_at s at) m

-- FIELDS BY MARKS, whatever numbers these are

-- how many fields are counted
abbrev pub marked_count : List ℕ → ℕ
marked_count m = get_or m count_mark 0

-- field f is marked, and its text and its pipe lie in the file
unfoldable pub is_marked : Text → List ℕ → ℕ → Bool
is_marked s m f =
    eqb (length m) mark_count
    && (ltb 0 f && (leb f mark_most && (leb f (marked_count m) && (ltb (get_or m (f - 1) 0) (get_or m f 0) && leb (get_or m f 0) (length s)))))

-- field f as it stands: from its mark to before its pipe; empty where it is not marked
unfoldable pub marked_field : Text → List ℕ → ℕ → Text
marked_field s m f = cond (is_marked s m f) (part s (get_or m (f - 1) 0) (get_or m f 0 - 1)) []

-- as judged
unfoldable pub judged_in : Text → List ℕ → ℕ → Text
judged_in s m f = judged_text (marked_field s m f)

abbrev pub span : ℕ → ℕ → Span
span start end = record { start = start; end = end }

-- where in the file that text stands
unfoldable pub judged_span : Text → List ℕ → ℕ → Span
judged_span s m f = cond (is_marked s m f) (span (get_or m (f - 1) 0) (get_or m f 0 - 1)) (span 0 0)
