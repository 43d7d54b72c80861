-- What the crate's own functions answer: cited by private contracts and by laws alone. No public contract rests on this page.
-- Assumes nothing.
use Rattle.std.specs.Prelude.{ℕ, cond}
use Rattle.house.specs.Text.{is_blank}

-- 0 for a blank, 1 for another byte
abbrev pub other_of : ℕ → ℕ
other_of b = cond (is_blank b) 0 1
