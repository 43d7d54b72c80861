use Rattle.rules.proofs.SetNeeds.{for_ask_long_sets}
use Rattle.rules.proofs.sets.ask_long_sets.Goals as goal

pub returns-then-made-clause-sets_asked : goal.returns-then-made-clause-sets_asked
returns-then-made-clause-sets_asked c = search for_ask_long_sets
