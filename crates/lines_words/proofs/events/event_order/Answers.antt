use Rattle.lines_words.proofs.EventNeeds.{for_event_order}
use Rattle.lines_words.proofs.events.event_order.Goals as goal

pub returns-in-Less : goal.returns-in-Less
returns-in-Less c = search for_event_order

pub returns-in-Equal : goal.returns-in-Equal
returns-in-Equal c = search for_event_order

pub returns-in-Greater : goal.returns-in-Greater
returns-in-Greater c = search for_event_order
