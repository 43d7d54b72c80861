use Rattle.lines_words.proofs.PlainNeeds.{for_part_order}
use Rattle.lines_words.proofs.events.part_order.Goals as goal

pub returns : goal.returns
returns c = search for_part_order
