-- A chart: its records, their form and their order.
-- Assumes nothing.
use Rattle.std.specs.Prelude.{ℕ, zero, suc, ◌+◌, ◌-◌, Bool, not, cond, ◌&&◌, List, [], ◌∷◌, length, get_or, take, drop, eqb}
use Rattle.house.specs.Text.{Text, all, within}
use Rattle.blanks.specs.Blanks.{trimmed}
use Rattle.lines.specs.Lines.{pipe}
use Rattle.lines.specs.Records.{IH, IP, II, IE, IN, IA, IF}
use Rattle.lines.specs.Shape.{follows}

-- "one byte of kind (1 patient, 2 immunization, 3 antigen count, 4 not immunized, 5 antigen not administered)": the kind of record that it
-- names, 0 for none
unfoldable pub record_kind : ℕ → ℕ
record_kind b = cond (eqb b 1) IP (cond (eqb b 2) II (cond (eqb b 3) IE (cond (eqb b 4) IN (cond (eqb b 5) IA 0))))

-- "then the fields from field 3 on, padded with blanks to the lengths printed in document 000's layouts (dosage to 9)"
abbrev pub ip_widths : List ℕ
ip_widths =
    9 ∷ 2 ∷ 15 ∷ 4 ∷ 15 ∷ 50 ∷ 50 ∷ 50 ∷ 4 ∷ 35 ∷ 35 ∷ 35 ∷ 35 ∷ 60 ∷ 3 ∷ 2 ∷ 12 ∷ 2 ∷ 2 ∷ 3 ∷ 2 ∷ 1 ∷ 8 ∷ 1 ∷ 1 ∷ []

abbrev pub ii_widths : List ℕ
ii_widths = 9 ∷ 1 ∷ 1 ∷ 8 ∷ 1 ∷ 15 ∷ 4 ∷ 3 ∷ 2 ∷ 9 ∷ 4 ∷ 3 ∷ 20 ∷ 4 ∷ 5 ∷ 3 ∷ 2 ∷ 3 ∷ 2 ∷ 1600 ∷ []

abbrev pub ie_widths : List ℕ
ie_widths = 9 ∷ 15 ∷ 2 ∷ []

abbrev pub in_widths : List ℕ
in_widths = 9 ∷ 1 ∷ 8 ∷ 3 ∷ 4 ∷ 2 ∷ []

abbrev pub ia_widths : List ℕ
ia_widths = 9 ∷ 15 ∷ []

-- by the kind of record
unfoldable pub widths_of : ℕ → List ℕ
widths_of k =
    cond (eqb k IP) ip_widths (cond (eqb k II) ii_widths (cond (eqb k IE) ie_widths (cond (eqb k IN) in_widths (cond (eqb k IA) ia_widths []))))

abbrev pub sum : List ℕ → ℕ
sum [] = 0
sum (n ∷ ns) = n + sum ns

-- of all its fields
unfoldable pub body_width : ℕ → ℕ
body_width k = sum (widths_of k)

-- A chart record: its kind, and as many bytes of its fields as there are
pub record Charted : Type 0 where
  pub kind : ℕ
  pub body : Text

-- the records from the next one on, after so many bytes that still belong to the last. An unknown kind is a record without a body, and reading
-- goes on at the next byte.
unfoldable pub charted_after : ℕ → Text → List Charted
charted_after n [] = []
charted_after zero (b ∷ s) =
    record { kind = record_kind b; body = take (body_width (record_kind b)) s } ∷ charted_after (body_width (record_kind b)) s
charted_after (suc n) (b ∷ s) = charted_after n s

-- the records of a chart
unfoldable pub charted_in : Text → List Charted
charted_in s = charted_after 0 s

abbrev pub is_of : ℕ → Charted → Bool
is_of k r = eqb r.kind k

-- FIELDS

-- "Fields are written without the blanks at their ends": fields of these widths, one after the other, each without the blanks at its ends
abbrev pub cut : List ℕ → Text → List Text
cut [] s = []
cut (w ∷ ws) s = trimmed (take w s) ∷ cut ws (drop w s)

-- the fields of a record as written, from field 3 on
unfoldable pub written_fields : Charted → List Text
written_fields r = cut (widths_of r.kind) r.body

-- field f of them, counted as in the file: for f from 3 on
unfoldable pub written_field : Charted → ℕ → Text
written_field r f = get_or (written_fields r) (f - 3) []

-- FORM: what is refused as "chart bytes malformed, holding a pipe or a byte outside 32..126, or not in guideline order"

-- a byte in 32..126, and no pipe
unfoldable pub is_field_byte : ℕ → Bool
is_field_byte b = within 32 126 b && not (eqb b pipe)

-- a record of a known kind, whole, of such bytes
unfoldable pub well_formed : Charted → Bool
well_formed r = not (eqb r.kind 0) && (eqb (length r.body) (body_width r.kind) && all is_field_byte r.body)

-- "in guideline order": the order of records in a file, between IH and IF. These may follow a record of kind p, and the end (IF) must be allowed
-- behind the last of them, so an IP alone is refused.
unfoldable pub ordered : ℕ → List Charted → Bool
ordered p [] = follows p IF
ordered p (r ∷ rs) = follows p r.kind && ordered r.kind rs

unfoldable pub is_chart : Text → Bool
is_chart s = all well_formed (charted_in s) && ordered IH (charted_in s)
