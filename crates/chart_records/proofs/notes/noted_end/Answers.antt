use Rattle.chart_records.proofs.NoteNeeds.{for_noted_end}
use Rattle.chart_records.proofs.notes.noted_end.Goals as goal

pub returns-then-note_at-at : goal.returns-then-note_at-at
returns-then-note_at-at c = search for_noted_end

pub returns-then-at-chart : goal.returns-then-at-chart
returns-then-at-chart c = search for_noted_end

pub returns : goal.returns
returns c = search for_noted_end
