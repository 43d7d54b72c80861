-- Texts written into an area, and numbers as texts.
-- Assumes nothing.
use Rattle.std.specs.Prelude.{ℕ, zero, suc, ◌+◌, ◌/◌, ◌%◌, cond, List, [], ◌∷◌, ◌++◌, ltb}
use Rattle.house.specs.Text.{Text}
use Rattle.house.specs.Over.{over}

-- the list written over the area from position n on, as much of it as fits; the rest of the area is as it was
abbrev pub over_from : ℕ → List ℕ → List ℕ → List ℕ
over_from zero xs area = over xs area
over_from (suc n) xs [] = []
over_from (suc n) xs (a ∷ area) = a ∷ over_from n xs area

-- the last digits of a number, at most so many
abbrev pub digits_within : ℕ → ℕ → Text
digits_within zero n = []
digits_within (suc k) n = cond (ltb n 10) ((48 + n) ∷ []) (digits_within k (n / 10) ++ ((48 + n % 10) ∷ []))

-- the number in digits, without leading zeros
unfoldable pub decimal : ℕ → Text
decimal n = digits_within (suc n) n
