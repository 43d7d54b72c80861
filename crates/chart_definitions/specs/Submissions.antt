-- The file that is written from a chart, and what writing it answers.
-- Assumes nothing.
use Rattle.std.specs.Prelude.{ℕ, suc, ◌+◌, ◌≡◌, Bool, not, cond, ◌&&◌, ◌||◌, List, [], ◌∷◌, ◌++◌, length, drop, eqb, ltb}
use Rattle.house.specs.Text.{Text, bytes, joined}
use Rattle.writing.specs.Writing.{decimal}
use Rattle.lines.specs.Lines.{LF, pipe}
use Rattle.lines.specs.Records.{IP, II, IE, IN, IA}
use Rattle.rules_definitions.specs.Forms.{is_prefix, is_batch}
use Rattle.chart_definitions.specs.Charts.{Charted, charted_in, written_fields, is_chart}
use Rattle.chart_definitions.specs.Lots.{in_writing_order}

-- THE FILE

-- a field and its pipe
abbrev pub piped : Text → Text
piped t = t ++ (pipe ∷ [])

-- "lines end in LF alone"
unfoldable pub line_text : List Text → Text
line_text fs = joined piped fs ++ (LF ∷ [])

-- the record type of a kind
unfoldable pub type_text : ℕ → Text
type_text k =
    cond (eqb k IP) (bytes "IP")
    (cond (eqb k II) (bytes "II") (cond (eqb k IE) (bytes "IE") (cond (eqb k IN) (bytes "IN") (cond (eqb k IA) (bytes "IA") []))))

-- the fields of a record that is number n
unfoldable pub numbered_fields : ℕ → Charted → List Text
numbered_fields n r = type_text r.kind ∷ decimal n ∷ written_fields r

unfoldable pub record_text : ℕ → Charted → Text
record_text n r = line_text (numbered_fields n r)

-- "records are numbered afresh": from number n on
unfoldable pub records_text : ℕ → List Charted → Text
records_text n [] = []
records_text n (r ∷ rs) = record_text n r ++ records_text (suc n) rs

abbrev pub version_fields : List Text
version_fields = bytes "IV" ∷ bytes "7.2" ∷ []

-- "Prefix and batch number come with the call"
abbrev pub header_fields : Text → Text → List Text
header_fields prefix batch = bytes "IH" ∷ prefix ∷ batch ∷ []

-- "the footer's count is the number of lines and its sum 0"
abbrev pub footer_fields : ℕ → List Text
footer_fields count = bytes "IF" ∷ decimal count ∷ bytes "0" ∷ []

-- beside the records there are IV, IH and IF
abbrev pub other_lines : ℕ
other_lines = 3

-- the file of these records, in this order
unfoldable pub submission_of : Text → Text → List Charted → Text
submission_of prefix batch rs =
    line_text version_fields ++ line_text (header_fields prefix batch) ++ records_text 1 rs ++ line_text (footer_fields (length rs + other_lines))

-- WHAT WRITING ANSWERS

-- What is lent: prefix and batch number, the chart, and the area that the file is to be written into
pub record Request : Type 0 where
  pub prefix : Text
  pub batch : Text
  pub chart : Text
  pub area : Text

abbrev pub request : Text → Text → Text → Text → Request
request prefix batch chart area = record { prefix = prefix; batch = batch; chart = chart; area = area }

-- What is left: the answer, the length of the file and the area
pub record Written : Type 0 where
  pub answer : ℕ
  pub length : ℕ
  pub area : Text

abbrev pub leaves : ℕ → ℕ → Text → Written
leaves answer long area = record { answer = answer; length = long; area = area }

abbrev pub RECORD : ℕ
RECORD = 8

abbrev pub ROOM : ℕ
ROOM = 9

-- the records in the order in which they are written
unfoldable pub records_of : Request → List Charted
records_of x = in_writing_order (charted_in x.chart)

-- the finished file
unfoldable pub file_of : Request → Text
file_of x = submission_of x.prefix x.batch (records_of x)

-- none of: "8 RECORD for chart bytes malformed, holding a pipe or a byte outside 32..126, or not in guideline order, or a prefix or batch
-- number not of its form"
unfoldable pub is_right : Request → Bool
is_right x = is_prefix x.prefix && (is_batch x.batch && is_chart x.chart)

-- "or than 5,000,000 bytes"
abbrev pub file_most : ℕ
file_most = 5000000

-- "9 ROOM exactly when the finished file is longer than the lent area or than 5,000,000 bytes"
unfoldable pub is_too_long : Request → Bool
is_too_long x = ltb (length x.area) (length (file_of x)) || ltb file_most (length (file_of x))

-- "The area is untouched at both"
abbrev pub refused : Request → ℕ → Written
refused x answer = leaves answer 0 x.area

-- "at 0 the length is given and bytes past the file stay"
unfoldable pub finished : Request → Written
finished x = leaves 0 (length (file_of x)) (file_of x ++ drop (length (file_of x)) x.area)

unfoldable pub write : Request → Written
write x = cond (not (is_right x)) (refused x RECORD) (cond (is_too_long x) (refused x ROOM) (finished x))

-- What the function `write` promises
abbrev pub Writes : Request → ℕ → ℕ → Text → Type 0
Writes x answer long area = leaves answer long area ≡ write x
