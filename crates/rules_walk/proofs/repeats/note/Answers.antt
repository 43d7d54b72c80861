use Rattle.rules_walk.proofs.RepeatNeeds.{for_note}
use Rattle.rules_walk.proofs.repeats.note.Goals as goal

pub returns-then-at-table : goal.returns-then-at-table
returns-then-at-table c = search for_note

pub returns-else-at-table : goal.returns-else-at-table
returns-else-at-table c = search for_note
