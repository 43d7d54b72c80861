use Rattle.lines_words.proofs.AskedNeeds.{for_find_entry}
use Rattle.lines_words.proofs.asked.find_entry.Goals as goal

pub returns : goal.returns
returns c = search for_find_entry
