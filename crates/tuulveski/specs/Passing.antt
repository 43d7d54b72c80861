-- One pass over a file: statements. The proofs stand in proofs/.
-- Assumes nothing.
use Rattle.std.specs.Prelude.{ℕ, ◌-◌, ◌≤◌, ◌≡◌}
use Rattle.house.specs.Text.{Text}
use Rattle.lines.specs.Lines.{lines_len}
use Rattle.tuulveski.specs.declared.interface.LineFrom.{LineFrom}
use Rattle.tuulveski.specs.Interface.{line_from, field_at, field_from}

-- line n of a file, counted from 1: it starts after the lines before it, the first one at 0
unfoldable pub line_in : Text → ℕ → LineFrom
line_in file n = record { line = n; start = lines_len (n - 1) file }

pub record OnePass : Type 0 where
  -- the first line starts at 0
  pub first : (file : Text) → line_in file 1 ≡ record { line = 1; start = 0 }
  -- going on from a line gives each later one
  pub later : (file : Text) (n m : ℕ) → 1 ≤ n → n ≤ m → line_from file (line_in file n).start n m ≡ line_in file m
  -- and from there each field is the one that is found from the file's start
  pub fields : (file : Text) (n f : ℕ) → 1 ≤ n → field_from file (line_in file n).start f ≡ field_at file n f
