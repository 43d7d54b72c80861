-- Working definitions: findings put to the area one by one. No public contract rests on this page.
-- Assumes nothing.
use Rattle.std.specs.Prelude.{ℕ, ◌+◌, ◌*◌, ◌/◌, ◌%◌, cond, List, [], ◌∷◌, ◌++◌, length, set, eqb, ltb}
use Rattle.house.specs.Text.{Text}
use Rattle.rules_definitions.specs.Findings.{Finding}
use Rattle.rules_fields.specs.declared.Broken.{Broken}

-- how many findings there are, and their area
pub record Kept : Type 0 where
  pub count : ℕ
  pub area : Text

abbrev pub kept : ℕ → Text → Kept
kept n area = record { count = n; area = area }

abbrev pub finding : ℕ → ℕ → ℕ → Finding
finding n f r = record { line = n; field = f; rule = r }

-- the six bytes of a finding, from a position on
unfoldable pub put6 : Text → ℕ → Finding → Text
put6 s at x =
    set (set (set (set (set (set s at x.rule) (at + 1) (x.line % 256)) (at + 2) (x.line / 256 % 256)) (at + 3) (x.line / 65536 % 256))
    (at + 4) (x.line / 16777216 % 256)) (at + 5) (x.field % 256)

-- one finding more: counted, and written where it fits whole
unfoldable pub put : Finding → Kept → Kept
put x k = kept (k.count + 1) (cond (ltb k.count (length k.area / 6)) (put6 k.area (6 * k.count) x) k.area)

unfoldable pub keep : List Finding → Kept → Kept
keep [] k = k
keep (x ∷ xs) k = keep xs (put x k)

-- a rule's number, 0 for none
abbrev pub some : ℕ → List ℕ
some r = cond (eqb r 0) [] (r ∷ [])

-- up to three rules that are broken at a field
unfoldable pub listed : Broken → List ℕ
listed b = some b.a ++ (some b.b ++ some b.c)
