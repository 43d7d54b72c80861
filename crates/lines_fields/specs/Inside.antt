-- Working definitions: what small functions answer, and parts of a text.
-- Assumes nothing.
use Rattle.std.specs.Prelude.{ℕ, suc, ◌+◌, ◌-◌, ◌≤◌, ◌<◌, ◌≡◌, Bool, cond, List, [], ◌∷◌, length, get_or, take, drop, eqb, ltb}
use Rattle.house.specs.Text.{Text}
use Rattle.lines_fields.specs.Lines.{pipe, fields_of, fields_len}

-- a part of a file, from one position to another
abbrev pub part : Text → ℕ → ℕ → Text
part s a e = take (e - a) (drop a s)

-- how many bytes stand before the first pipe, or all
unfoldable pub pipe_len : Text → ℕ
pipe_len [] = 0
pipe_len (b ∷ t) = cond (eqb b pipe) 0 (suc (pipe_len t))

-- a byte that may end a line: it is below 14, as LF and CR are
unfoldable pub is_low : ℕ → Bool
is_low b = ltb b 14

-- of a line with text t that starts at position at, the marks below number k stand in m
pub record Marked (at : ℕ) (t : Text) (k : ℕ) (m : List ℕ) : Type 0 where
  pub room : length m ≡ 30
  pub done : (f : ℕ) → f < k → f ≤ 28 → get_or m f 0 ≡ at + fields_len f t

-- n of its fields were marked up to position i, from where on its text is u
pub record Marking (at : ℕ) (t : Text) (i n : ℕ) (u : Text) (m : List ℕ) : Type 0 where
  pub few : n ≤ i
  pub upto : at + length t ≡ i + length u
  pub still : length (fields_of t) ≡ n + length (fields_of u)
  pub ahead : (f : ℕ) → at + fields_len (n + suc f) t ≡ i + fields_len (suc f) u
  pub marked : Marked at t (n + 1) m
