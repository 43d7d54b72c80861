-- The lines of a file and the fields of a line, for a file of any shape.
-- Assumes nothing.
use Rattle.std.specs.Prelude.{ℕ, zero, suc, ◌+◌, ◌-◌, ◌≤◌, ◌≡◌, Bool, true, false, cond, List, [], ◌∷◌, length, get_or, drop, eqb, ltb}
use Rattle.house.specs.Text.{Text}
use Rattle.lines_fields.specs.declared.LineAt.{LineAt}
use Rattle.lines_fields.specs.declared.FieldPlace.{FieldPlace}

abbrev pub LF : ℕ
LF = 10

abbrev pub CR : ℕ
CR = 13

abbrev pub pipe : ℕ
pipe = 124

-- a line: its text without its ending, and whether an LF ends it
pub record Line : Type 0 where
  pub text : Text
  pub ended : Bool

-- "A line ends with LF; one CR just before it belongs to the ending": how many bytes the ending at the head has, 0 for none
unfoldable pub lf_next : Text → ℕ
lf_next [] = 0
lf_next (c ∷ s) = cond (eqb c LF) 2 0

unfoldable pub ending_of : Text → ℕ
ending_of [] = 0
ending_of (b ∷ s) = cond (eqb b LF) 1 (cond (eqb b CR) (lf_next s) 0)

-- a byte before the rest of its line, which is the first of the lines that follow; "bytes after the last LF, if any, are a line too"
unfoldable pub grow : ℕ → List Line → List Line
grow b [] = record { text = b ∷ []; ended = false } ∷ []
grow b (l ∷ ls) = record { text = b ∷ l.text; ended = l.ended } ∷ ls

-- by the ending at the head: none, so the byte is text; LF, which ends an empty text; CR LF, where the CR is no text
unfoldable pub by_ending : ℕ → ℕ → List Line → List Line
by_ending zero b ls = grow b ls
by_ending (suc zero) b ls = record { text = []; ended = true } ∷ ls
by_ending (suc (suc n)) b ls = ls

-- the lines of a file
unfoldable pub lines_of : Text → List Line
lines_of [] = []
lines_of (b ∷ s) = by_ending (ending_of (b ∷ s)) b (lines_of s)

-- a line that is not there has no bytes
abbrev pub no_line : Line
no_line = record { text = []; ended = false }

-- The line that starts at a position: the first line of the file from there on

unfoldable pub line_of : Text → Line
line_of s = get_or (lines_of s) 0 no_line

-- how many bytes its text has
unfoldable pub text_len : Text → ℕ
text_len s = length (line_of s).text

-- and with its ending
unfoldable pub line_len : Text → ℕ
line_len s = text_len s + ending_of (drop (text_len s) s)

-- where its text ends, where the next line starts, and whether an LF ends it, s being the file from position at on
unfoldable pub line_at : ℕ → Text → LineAt
line_at at s = record { end = at + text_len s; next = at + line_len s; lf = (line_of s).ended }

-- r is the line that starts at position at of the file s. What follows from it is said too, for those who cut the line out of the
-- file: it lies after its start and, unless that is past the file's end, within the file.
pub record LineIs (s : Text) (at : ℕ) (r : LineAt) : Type 0 where
  pub exact : r ≡ line_at at (drop at s)
  pub from : at ≤ r.end
  pub on : r.end ≤ r.next
  pub within : r.next ≤ at + (length s - at)

-- Fields

-- a byte before the rest of its field, which is the first of the fields that follow; where no pipe follows, it is in no field
unfoldable pub lengthen : ℕ → List Text → List Text
lengthen b [] = []
lengthen b (f ∷ fs) = (b ∷ f) ∷ fs

-- "a field is a text that a pipe ends within its line"
unfoldable pub fields_of : Text → List Text
fields_of [] = []
fields_of (b ∷ s) = cond (eqb b pipe) ([] ∷ fields_of s) (lengthen b (fields_of s))

-- field f of a line's text, counted from 1; empty where it is not there
unfoldable pub field_of : Text → ℕ → Text
field_of t f = get_or ([] ∷ fields_of t) f []

-- the text of line n, counted from 1
unfoldable pub text_at : Text → ℕ → Text
text_at s zero = []
text_at s (suc k) = (get_or (lines_of s) k no_line).text

-- "The text of field f on line n is handed back as a part of the lent file"
unfoldable pub field_text : Text → ℕ → ℕ → Text
field_text s n f = field_of (text_at s n) f

-- "a separate yes or no tells an empty field from one that isn't there": of a line's text, and of line n
unfoldable pub is_there : Text → ℕ → Bool
is_there t zero = false
is_there t (suc f) = ltb f (length (fields_of t))

unfoldable pub field_there : Text → ℕ → ℕ → Bool
field_there s n f = is_there (text_at s n) f

-- Where that part starts in the file: after the lines before its line, and in its line after the fields before it

-- how many bytes the first k lines have with their endings
unfoldable pub lines_len : ℕ → Text → ℕ
lines_len zero s = 0
lines_len (suc k) s = line_len s + lines_len k (drop (line_len s) s)

-- how many bytes the first k fields of a line's text have with their pipes
unfoldable pub fields_len : ℕ → Text → ℕ
fields_len k [] = 0
fields_len zero (b ∷ t) = 0
fields_len (suc k) (b ∷ t) = suc (cond (eqb b pipe) (fields_len k t) (fields_len (suc k) t))

-- 0 where the field is not there
unfoldable pub field_position : Text → ℕ → ℕ → ℕ
field_position s n f = cond (field_there s n f) (lines_len (n - 1) s + fields_len (f - 1) (text_at s n)) 0

-- Field f of a line with text t that starts at a position: whether it is there, where its text starts, and how long it is
unfoldable pub place_in : Text → ℕ → ℕ → FieldPlace
place_in t at f = record { there = is_there t f; start = cond (is_there t f) (at + fields_len (f - 1) t) 0; length = length (field_of t f) }
