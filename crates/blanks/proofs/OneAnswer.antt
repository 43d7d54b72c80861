-- No second answer meets the contract of `trim_end` or `trim`.
-- Assumes nothing.
use mathlib.Core.Path.{◌≡◌}
use Rattle.house.specs.Text.{Text}
use Rattle.blanks.specs.Blanks.{without_last_blanks, trimmed}

pub trim_one : (t x y : Text) → x ≡ trimmed t → y ≡ trimmed t → x ≡ y
trim_one t x y p q = cc

pub trim_end_one : (t x y : Text) → x ≡ without_last_blanks t → y ≡ without_last_blanks t → x ≡ y
trim_end_one t x y p q = cc
