use Rattle.lines_words.proofs.EventNeeds.{for_given_order}
use Rattle.lines_words.proofs.events.given_order.Goals as goal

pub returns-in-Less : goal.returns-in-Less
returns-in-Less c = search for_given_order

pub returns-in-Equal : goal.returns-in-Equal
returns-in-Equal c = search for_given_order

pub returns-in-Greater : goal.returns-in-Greater
returns-in-Greater c = search for_given_order
