-- What the C interface gives.
-- Assumes nothing.
use Rattle.std.specs.Prelude.{ℕ, ◌+◌, ◌-◌, ◌≡◌, List, [], ◌∷◌, cond, ltb, length, drop}
use Rattle.house.specs.Text.{Text}
use Rattle.lines.specs.Lines.{line_of, field_text, field_there, lines_len, field_position, place_in}
use Rattle.tuulveski.specs.declared.interface.Numbers.{Numbers}
use Rattle.tuulveski.specs.declared.interface.FieldAt.{FieldAt}
use Rattle.tuulveski.specs.declared.interface.LineFrom.{LineFrom}
use Rattle.answers.specs.Answers.{Lent, check, numbers_of}

abbrev pub numbers : ℕ → ℕ → ℕ → ℕ → ℕ → ℕ → ℕ → ℕ → Numbers
numbers answer line cause found added changed deleted not_immunized_count =
    record {
      answer = answer;
      line = line;
      cause = cause;
      findings = found;
      added = added;
      changed = changed;
      deleted = deleted;
      not_immunized = not_immunized_count;
    }

-- the numbers in the order of document 01: "answer, line, cause, findings, added, changed, deleted, IN"
unfoldable pub numbers_in : Numbers → List ℕ
numbers_in n =
    n.answer ∷ n.line ∷ n.cause ∷ n.findings ∷ n.added ∷ n.changed ∷ n.deleted ∷ n.not_immunized ∷ []

-- What the function `tuulveski_check` promises
pub record GivesNumbers (x : Lent) (n : Numbers) (ledger area : Text) : Type 0 where
  pub numbers_are : numbers_in n ≡ numbers_of (check x).answer
  pub ledger_is : ledger ≡ (check x).ledger
  pub area_is : area ≡ (check x).area

-- "The text of field f on line n .. a separate yes or no tells an empty field from one that isn't there"
unfoldable pub field_at : Text → ℕ → ℕ → FieldAt
field_at file line field =
    record { present = field_there file line field; start = field_position file line field; length = length (field_text file line field) }

-- GOING ON FROM A LINE, so that all findings of a file are shown in one pass. That following these two gives what `field_at` gives is proved:
-- `specs/Passing`.

-- line `line`, from line `number` on, which starts at a position: it starts after the lines between. It never goes back.
unfoldable pub line_from : Text → ℕ → ℕ → ℕ → LineFrom
line_from file start number line = record { line = cond (ltb number line) line number; start = start + lines_len (line - number) (drop start file) }

-- the text of the line that starts at a position
abbrev pub text_from : Text → ℕ → Text
text_from file start = (line_of (drop start file)).text

-- a field of it: whether it is there, where it starts and how long it is
unfoldable pub field_from : Text → ℕ → ℕ → FieldAt
field_from file start field =
    record {
      present = (place_in (text_from file start) start field).there;
      start = (place_in (text_from file start) start field).start;
      length = (place_in (text_from file start) start field).length;
    }
