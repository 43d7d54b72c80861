use Rattle.lines_words.proofs.AskedNeeds.{for_row_between}
use Rattle.lines_words.proofs.asked.row_between.Goals as goal

pub returns-then-f-from : goal.returns-then-f-from
returns-then-f-from c = search for_row_between

pub returns-then-f-e : goal.returns-then-f-e
returns-then-f-e c = search for_row_between

pub returns-in-Less : goal.returns-in-Less
returns-in-Less c = search for_row_between

pub returns-else-f-e : goal.returns-else-f-e
returns-else-f-e c = search for_row_between

pub returns-in-Greater : goal.returns-in-Greater
returns-in-Greater c = search for_row_between
