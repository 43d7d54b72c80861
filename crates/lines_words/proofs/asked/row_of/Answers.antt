use Rattle.lines_words.proofs.AskedNeeds.{for_row_of}
use Rattle.lines_words.proofs.asked.row_of.Goals as goal

pub returns-then-e-f : goal.returns-then-e-f
returns-then-e-f c = search for_row_of

pub returns-then-e-f-2 : goal.returns-then-e-f-2
returns-then-e-f-2 c = search for_row_of

pub returns-in-Less : goal.returns-in-Less
returns-in-Less c = search for_row_of

pub returns-else-e-f-2 : goal.returns-else-e-f-2
returns-else-e-f-2 c = search for_row_of

pub returns-in-Greater : goal.returns-in-Greater
returns-in-Greater c = search for_row_of
