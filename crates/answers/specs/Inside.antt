-- Working definitions: the answer from one of its steps on, and what is known there. No public contract rests on this page.
-- Assumes nothing.
use Rattle.std.specs.Prelude.{ℕ, ◌≤◌, ◌≡◌, true, not, cond, List, length, take}
use Rattle.house.specs.Text.{Text, how_many}
use Rattle.house.specs.Members.{In, Distinct}
use Rattle.lines.specs.Records.{IN, is_kind, recs}
use Rattle.lines.specs.Shape.{shape_of}
use Rattle.lines.specs.Sorted.{places_most}
use Rattle.book.specs.Book.{Sound}
use Rattle.ledger.specs.Ledger.{Event, ledger_ok, live_in}
use Rattle.rules.specs.declared.By.{By}
use Rattle.rules.specs.Contexts.{contexts_in}
use Rattle.rules.specs.Blocks.{events_of, adds, deletes}
use Rattle.rules.specs.Firsts.{firsts_of, index_of}
use Rattle.rules.specs.declared.Judged.{Judged}
use Rattle.rules.specs.Judged.{judged}
use Rattle.answers.specs.declared.Refusal.TheVariants.{Ledger}
use Rattle.answers.specs.Answers.{Lent, Outcome, file_most, lent, findings, not_immunized, refused, shaped}

-- room for a book and its hash table
abbrev pub book_buffer : ℕ
book_buffer = 327680

-- the fewest bytes that a block takes
abbrev pub block_least : ℕ
block_least = 52

-- the longest file that is judged in small buffers
abbrev pub short_file : ℕ
short_file = 16384

-- with a well-formed ledger
unfoldable pub after_ledger : Lent → Outcome
after_ledger x = shaped x (shape_of x.file)

-- with a well-formed book
unfoldable pub after_book : Lent → Outcome
after_book x = cond (not (ledger_ok x.ledger)) (refused x Ledger) (after_ledger x)

-- today is this day, the book has these sections, and the ledger so many live events
pub record Ready (x : Lent) (by : By) : Type 0 where
  pub today_is : by.today ≡ x.today
  pub book : Sound x.book by.sections
  pub short : length x.file ≤ file_most
  pub ledger : ledger_ok x.ledger ≡ true
  pub live_is : by.live ≡ length (live_in x.ledger)

-- what is lent, today being the day that a file is judged by
abbrev pub as_lent : By → Text → Text → Text → Text → Lent
as_lent by file book ledger area = lent by.today file book ledger area

-- how many blocks, findings and IN records there are
unfoldable pub judged_of : Lent → Judged
judged_of x = judged (length (firsts_of x.file)) (length (findings x)) (not_immunized x)

-- the ledger is well formed, and the blocks of the file name events once, those that it deletes being live
pub record Settles (file ledger : Text) : Type 0 where
  pub ok : ledger_ok ledger ≡ true
  pub adds_once : Distinct (events_of adds (contexts_in file))
  pub deletes_once : Distinct (events_of deletes (contexts_in file))
  pub were_live : (e : Event) → In e (events_of deletes (contexts_in file)) → In e (live_in ledger)

-- that, with so many live events, the index of the blocks, and so many IN records
pub record Settling (file ledger : Text) (live : ℕ) (index : List ℕ) (not_immunized_count : ℕ) : Type 0 where
  pub settles : Settles file ledger
  pub live_is : live ≡ length (live_in ledger)
  pub index_is : index ≡ index_of file
  pub few : length index ≤ places_most
  pub not_immunized_is : not_immunized_count ≡ how_many (is_kind IN) (recs file)

-- judging leaves the index of the blocks at the front of a buffer, and where there are no findings the file can be settled
pub record Judges (file ledger : Text) (live : ℕ) (t : Judged) (buffer : List ℕ) : Type 0 where
  pub part : t.blocks ≤ length buffer
  pub settling : t.findings ≡ 0 → Settling file ledger live (take t.blocks buffer) t.not_immunized
