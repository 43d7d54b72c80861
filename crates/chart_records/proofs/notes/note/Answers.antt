use Rattle.chart_records.proofs.NoteNeeds.{for_note}
use Rattle.chart_records.proofs.notes.note.Goals as goal

pub returns-then-at-lt-NOTE_BOUND : goal.returns-then-at-lt-NOTE_BOUND
returns-then-at-lt-NOTE_BOUND c = search for_note

pub returns-else-at-lt-NOTE_BOUND : goal.returns-else-at-lt-NOTE_BOUND
returns-else-at-lt-NOTE_BOUND c = search for_note

pub returns-else-end-at-eq-COMMENT_START : goal.returns-else-end-at-eq-COMMENT_START
returns-else-end-at-eq-COMMENT_START c = search for_note
