use Rattle.rules.proofs.SetNeeds.{for_ask_sets}
use Rattle.rules.proofs.sets.ask_sets.Goals as goal

pub returns-then-rule13_in_step-clause-sets_asked :
    goal.returns-then-rule13_in_step-clause-sets_asked
returns-then-rule13_in_step-clause-sets_asked c = search for_ask_sets

pub returns-clause-sets_asked : goal.returns-clause-sets_asked
returns-clause-sets_asked c = search for_ask_sets
