-- What is claimed of reading a written file, as types; the proofs stand in proofs/. What is quoted here is from document 02, request 3.
-- Assumes nothing.
use Rattle.std.specs.Prelude.{Ok, ℕ, suc, ◌+◌, ◌≡◌, true, List, [], ◌∷◌, ◌++◌, length}
use Rattle.house.specs.Text.{Text}
use Rattle.lines.specs.Records.{Rec, IV, IH, IF, recs}
use Rattle.lines.specs.Shape.{shape_of}
use Rattle.chart_definitions.specs.Charts.{Charted}
use Rattle.chart_definitions.specs.Submissions.{numbered_fields, version_fields, header_fields, footer_fields, other_lines, Request, records_of, file_of, is_right}

-- a line read: its kind and its fields
abbrev pub reading : ℕ → List Text → Rec
reading k fs = record { kind = k; fields = fs }

-- the lines of chart records, "numbered afresh": from number n on
abbrev pub record_recs : ℕ → List Charted → List Rec
record_recs n [] = []
record_recs n (r ∷ rs) = reading r.kind (numbered_fields n r) ∷ record_recs (suc n) rs

-- the lines of a submission of these records
unfoldable pub submission_recs : Text → Text → List Charted → List Rec
submission_recs prefix batch rs =
    reading IV version_fields
    ∷ reading IH (header_fields prefix batch)
    ∷ (record_recs 1 rs ++ (reading IF (footer_fields (length rs + other_lines)) ∷ []))

-- "Reading the file back gives these fields in that order."
abbrev pub ReadBack : Type 0
ReadBack = (x : Request) → is_right x ≡ true → recs (file_of x) ≡ submission_recs x.prefix x.batch (records_of x)

-- and it is a submission
abbrev pub ShapeRight : Type 0
ShapeRight = (x : Request) → is_right x ≡ true → shape_of (file_of x) ≡ Ok tt
