use Rattle.rules.proofs.LastNeeds.{for_relaxed_of}
use Rattle.rules.proofs.line.relaxed_of.Goals as goal

pub returns : goal.returns
returns c = search for_relaxed_of
