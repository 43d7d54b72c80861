-- The findings of a file: one list, by line, field, rule; and the findings area.
-- Assumes nothing.
use Rattle.std.specs.Prelude.{ℕ, zero, suc, ◌+◌, ◌/◌, ◌%◌, List, [], ◌∷◌, ◌++◌, length, take, drop}
use Rattle.house.specs.Text.{Text, joined}
use Rattle.rules_definitions.specs.Contexts.{Context, contexts_in}
use Rattle.rules_definitions.specs.Seen.{Setting, Seen, seen_at}
use Rattle.rules_definitions.specs.Rules.{broken_at}

pub record Finding : Type 0 where
  pub line : ℕ
  pub field : ℕ
  pub rule : ℕ

-- a finding for each of the rules
unfoldable pub found : ℕ → ℕ → List ℕ → List Finding
found n f [] = []
found n f (r ∷ rs) = record { line = n; field = f; rule = r } ∷ found n f rs

-- of the fields from number f on, so many of them, of line n
unfoldable pub fields_findings : Setting → ℕ → Seen → ℕ → ℕ → List Finding
fields_findings s n v f zero = []
fields_findings s n v f (suc m) = found n f (broken_at s v f) ++ fields_findings s n v (f + 1) m

unfoldable pub line_findings : Setting → Context → List Finding
line_findings s h = fields_findings s h.number (seen_at s h) 1 (length h.line.fields)

-- "Findings are listed by line, field, rule."
unfoldable pub findings_of : Setting → Text → List Finding
findings_of s file = joined (line_findings s) (contexts_in file)

-- "A finding is one byte of kind (the rule), then 5 bytes: line as four bytes, lowest first, and field as one."
unfoldable pub finding_bytes : Finding → Text
finding_bytes x =
    x.rule ∷ x.line % 256 ∷ x.line / 256 % 256 ∷ x.line / 65536 % 256 ∷ x.line / 16777216 % 256 ∷ x.field % 256 ∷ []

-- "it gets the longest run of whole findings from the start of the list that fits, and its other bytes stay"
unfoldable pub area_after : Text → List Finding → Text
area_after area xs = let kept = joined finding_bytes (take (length area / 6) xs) in kept ++ drop (length kept) area
