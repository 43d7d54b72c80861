use Rattle.rules_lists.proofs.ListNeeds.{for_is_relaxed}
use Rattle.rules_lists.proofs.is_relaxed.Goals as goal

pub returns : goal.returns
returns c = search for_is_relaxed
