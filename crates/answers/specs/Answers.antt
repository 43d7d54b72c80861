-- What the check answers: one total definition, from what is lent to what is left.
-- Assumes nothing.
use Rattle.std.specs.Prelude.{ℕ, ◌+◌, ◌≡◌, Bool, true, false, not, cond, List, [], ◌∷◌, length, ltb, Result, Ok, Err}
use Rattle.house.specs.Text.{Text, how_many, is_empty}
use Rattle.dates.specs.Dates.{is_day}
use Rattle.lines.specs.Records.{IN, is_kind, recs}
use Rattle.lines.specs.Shape.{number_of, Shape, shape_of}
use Rattle.book.specs.Book.{book_ok, book_of, listed, listed_on, listed_ended}
use Rattle.ledger.specs.Ledger.{Event, slots_in, ledger_ok, live_in, is_among, events_after, ledger_with}
use Rattle.rules.specs.Contexts.{contexts_in}
use Rattle.rules.specs.Blocks.{events_of, adds, changes, deletes}
use Rattle.rules.specs.Seen.{Setting}
use Rattle.rules.specs.Findings.{Finding, findings_of, area_after}
use Rattle.answers.specs.declared.Accepted.{Accepted}
use Rattle.answers.specs.declared.Refusal.{Refusal}
use Rattle.answers.specs.declared.Refusal.TheVariants.{Date, Long, Book, Ledger, Shape as BadShape, Findings, Full}

-- What is lent
pub record Lent : Type 0 where
  pub today : ℕ
  pub file : Text
  pub book : Text
  pub ledger : Text
  pub area : Text

-- The answer: accepted, or refused for one of seven reasons
abbrev pub Answer : Type 0
Answer = Result Accepted Refusal

-- so many blocks added, changed, deleted, and IN records
abbrev pub accepting : ℕ → ℕ → ℕ → ℕ → Answer
accepting a c d n = Ok (record { added = a; changed = c; deleted = d; not_immunized = n })

-- What the check leaves: its answer, the ledger and the findings area
pub record Outcome : Type 0 where
  pub answer : Answer
  pub ledger : Text
  pub area : Text

abbrev pub lent : ℕ → Text → Text → Text → Text → Lent
lent today file book ledger area = record { today = today; file = file; book = book; ledger = ledger; area = area }

abbrev pub left : Answer → Text → Text → Outcome
left answer ledger area = record { answer = answer; ledger = ledger; area = area }

-- "file over 5,000,000 bytes"
abbrev pub file_most : ℕ
file_most = 5000000

unfoldable pub setting_of : Lent → Setting
setting_of x =
    record {
      profile = 0;
      today = x.today;
      known = listed (book_of x.book);
      in_force_lem = listed_on (book_of x.book);
      ended = listed_ended (book_of x.book);
      live = is_among (live_in x.ledger);
    }

unfoldable pub findings : Lent → List Finding
findings x = findings_of (setting_of x) x.file

-- the events of the blocks added, changed, deleted
unfoldable pub added : Lent → List Event
added x = events_of adds (contexts_in x.file)

unfoldable pub changed : Lent → List Event
changed x = events_of changes (contexts_in x.file)

unfoldable pub deleted : Lent → List Event
deleted x = events_of deletes (contexts_in x.file)

-- "IN records aren't kept in the ledger.": they are counted
unfoldable pub not_immunized : Lent → ℕ
not_immunized x = how_many (is_kind IN) (recs x.file)

-- "live + added - deleted exceeds the slots": "Room freed by a file serves the same file."
unfoldable pub is_full : Lent → Bool
is_full x = ltb (slots_in x.ledger + length (deleted x)) (length (live_in x.ledger) + length (added x))

-- "After acceptance it holds exactly the events live before, plus the added, less the deleted, in this form."
unfoldable pub ledger_after : Lent → Text
ledger_after x = ledger_with (length x.ledger) (events_after (live_in x.ledger) (added x) (deleted x))

-- "The ledger alters only at 0. The findings area alters only at 6"
abbrev pub refused : Lent → Refusal → Outcome
refused x r = record { answer = Err r; ledger = x.ledger; area = x.area }

-- 0 ACCEPTED, "nothing below"; with "blocks added, changed, deleted; IN records"
unfoldable pub accepted : Lent → Outcome
accepted x =
    record {
      answer = accepting (length (added x)) (length (changed x)) (length (deleted x)) (not_immunized x);
      ledger = ledger_after x;
      area = x.area;
    }

-- 6 FINDINGS, "one finding or more"; with "how many in all"
unfoldable pub with_findings : Lent → Outcome
with_findings x = record { answer = Err (Findings (length (findings x))); ledger = x.ledger; area = area_after x.area (findings x) }

-- 7 FULL, "live + added - deleted exceeds the slots": of a file without findings
unfoldable pub roomed : Lent → Outcome
roomed x = cond (is_full x) (refused x Full) (accepted x)

-- of a file of right shape
unfoldable pub judged : Lent → Outcome
judged x = cond (is_empty (findings x)) (roomed x) (with_findings x)

-- 5 SHAPE, "a fault of shape"; with "line, cause"
abbrev pub shaped : Lent → Shape → Outcome
shaped x (Ok u) = judged x
shaped x (Err fault) = refused x (BadShape fault)

-- 1 DATE, "today is no date"; 2 LONG, "file over 5,000,000 bytes"; 3 BOOK, "code book malformed"; 4 LEDGER, "ledger malformed".
-- "The lowest number that applies is given."
unfoldable pub check : Lent → Outcome
check x =
    cond (not (is_day x.today)) (refused x Date)
    (cond (ltb file_most (length x.file)) (refused x Long)
    (cond (not (book_ok x.book)) (refused x Book)
    (cond (not (ledger_ok x.ledger)) (refused x Ledger)
    (shaped x (shape_of x.file)))))

-- What the function `check` promises: what it answers and leaves is this definition's
abbrev pub Gives : Lent → Answer → Text → Text → Type 0
Gives x answer ledger area = left answer ledger area ≡ check x

-- The paper's numbers: answer, line, cause, findings, added, changed, deleted, IN. "Numbers not named for an answer are 0."
unfoldable pub numbers_of : Answer → List ℕ
numbers_of (Ok a) = 0 ∷ 0 ∷ 0 ∷ 0 ∷ a.added ∷ a.changed ∷ a.deleted ∷ a.not_immunized ∷ []
numbers_of (Err Date) = 1 ∷ 0 ∷ 0 ∷ 0 ∷ 0 ∷ 0 ∷ 0 ∷ 0 ∷ []
numbers_of (Err Long) = 2 ∷ 0 ∷ 0 ∷ 0 ∷ 0 ∷ 0 ∷ 0 ∷ 0 ∷ []
numbers_of (Err Book) = 3 ∷ 0 ∷ 0 ∷ 0 ∷ 0 ∷ 0 ∷ 0 ∷ 0 ∷ []
numbers_of (Err Ledger) = 4 ∷ 0 ∷ 0 ∷ 0 ∷ 0 ∷ 0 ∷ 0 ∷ 0 ∷ []
numbers_of (Err (BadShape fault)) = 5 ∷ fault.line ∷ number_of fault.cause ∷ 0 ∷ 0 ∷ 0 ∷ 0 ∷ 0 ∷ []
numbers_of (Err (Findings n)) = 6 ∷ 0 ∷ 0 ∷ n ∷ 0 ∷ 0 ∷ 0 ∷ 0 ∷ []
numbers_of (Err Full) = 7 ∷ 0 ∷ 0 ∷ 0 ∷ 0 ∷ 0 ∷ 0 ∷ 0 ∷ []

unfoldable pub is_accepted : Answer → Bool
is_accepted (Ok a) = true
is_accepted (Err r) = false

unfoldable pub is_findings : Answer → Bool
is_findings (Ok a) = false
is_findings (Err Date) = false
is_findings (Err Long) = false
is_findings (Err Book) = false
is_findings (Err Ledger) = false
is_findings (Err (BadShape fault)) = false
is_findings (Err (Findings n)) = true
is_findings (Err Full) = false
