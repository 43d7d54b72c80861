use Rattle.lines_words.proofs.EventNeeds.{for_padded_order}
use Rattle.lines_words.proofs.events.padded_order.Goals as goal

pub returns : goal.returns
returns c = search for_padded_order
