-- Numbers: the lesser and the greater of two, and those of four bytes, "lowest first".
-- Assumes nothing.
use Rattle.std.specs.Prelude.{ℕ, ◌+◌, ◌*◌, cond, length, get_or, ltb, leb}
use Rattle.house.specs.Text.{Text}

abbrev pub lesser_of : ℕ → ℕ → ℕ
lesser_of a b = cond (ltb b a) b a

abbrev pub greater_of : ℕ → ℕ → ℕ
greater_of a b = cond (ltb a b) b a

-- the number that the four bytes at a position write
unfoldable pub four_bytes : Text → ℕ → ℕ
four_bytes s at = get_or s at 0 + 256 * get_or s (at + 1) 0 + 65536 * get_or s (at + 2) 0 + 16777216 * get_or s (at + 3) 0

-- or 0 where they are not there
unfoldable pub number_at : Text → ℕ → ℕ
number_at s at = cond (leb (at + 4) (length s)) (four_bytes s at) 0
