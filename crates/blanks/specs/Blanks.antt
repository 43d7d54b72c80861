-- Blanks at the ends of a text.
-- Assumes nothing.
use Rattle.std.specs.Prelude.{cond, ◌&&◌, [], ◌∷◌}
use Rattle.house.specs.Text.{Text, after_front, is_empty, is_blank}

-- the text without the blanks that it ends with
unfoldable pub without_last_blanks : Text → Text
without_last_blanks [] = []
without_last_blanks (b ∷ t) = cond (is_blank b && is_empty (without_last_blanks t)) [] (b ∷ without_last_blanks t)

-- without the blanks at both its ends: of a text of blanks nothing is left, and blanks inside stay
unfoldable pub trimmed : Text → Text
trimmed t = after_front is_blank (without_last_blanks t)
