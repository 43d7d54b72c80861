use Rattle.lines_words.proofs.AskedNeeds.{for_has_key}
use Rattle.lines_words.proofs.asked.has_key.Goals as goal

pub returns : goal.returns
returns c = search for_has_key
