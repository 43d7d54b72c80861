use Rattle.lines_words.proofs.EventNeeds.{for_one_event}
use Rattle.lines_words.proofs.events.one_event.Goals as goal

pub returns-in-Less : goal.returns-in-Less
returns-in-Less c = search for_one_event

pub returns-in-Equal : goal.returns-in-Equal
returns-in-Equal c = search for_one_event

pub returns-in-Greater : goal.returns-in-Greater
returns-in-Greater c = search for_one_event
