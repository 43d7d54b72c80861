use Rattle.lines_words.proofs.AskedNeeds.{for_one_key}
use Rattle.lines_words.proofs.asked.one_key.Goals as goal

pub returns-then-what-eq-EVENT : goal.returns-then-what-eq-EVENT
returns-then-what-eq-EVENT c = search for_one_key

pub returns-in-Less : goal.returns-in-Less
returns-in-Less c = search for_one_key

pub returns-in-Equal : goal.returns-in-Equal
returns-in-Equal c = search for_one_key

pub returns-in-Greater : goal.returns-in-Greater
returns-in-Greater c = search for_one_key
