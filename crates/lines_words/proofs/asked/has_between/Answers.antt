use Rattle.lines_words.proofs.AskedNeeds.{for_has_between}
use Rattle.lines_words.proofs.asked.has_between.Goals as goal

pub returns : goal.returns
returns c = search for_has_between
