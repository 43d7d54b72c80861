-- Working definitions: what the crate's own functions answer. No public contract rests on this page.
-- Assumes nothing.
use Rattle.std.specs.Prelude.{◌≡◌, Bool}
use Rattle.house.specs.Text.{Text}
use Rattle.lines.specs.Records.{Rec, rec_of}

-- a test on lines gives of each what p gives of its record
abbrev pub Tests : (Text → Bool → Type 0) → (Rec → Bool) → Type 0
Tests says p = (l : Text) (x : Bool) → says l x → x ≡ p (rec_of l)
