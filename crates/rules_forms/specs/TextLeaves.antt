-- What the functions on texts answer where the rules' own definitions have no name for it.
-- Assumes nothing.
use Rattle.std.specs.Prelude.{ℕ, cond, length}
use Rattle.house.specs.Text.{Text, front, is_digit, run, number}

-- the number that 1 to 9 digits write; 0 for any other text
unfoldable pub value_of : Text → ℕ
value_of t = cond (run 1 9 is_digit t) (number t) 0

-- how many digits a text starts with
unfoldable pub digits_len : Text → ℕ
digits_len t = length (front is_digit t)
