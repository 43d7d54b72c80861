use Rattle.rules.proofs.SetNeeds.{for_ask_listed_sets}
use Rattle.rules.proofs.sets.ask_listed_sets.Goals as goal

pub returns-in-Some-clause-sets_asked : goal.returns-in-Some-clause-sets_asked
returns-in-Some-clause-sets_asked c = search for_ask_listed_sets

pub returns-in-Some-clause-lists_are_2 : goal.returns-in-Some-clause-lists_are_2
returns-in-Some-clause-lists_are_2 c = search for_ask_listed_sets

pub returns-clause-lists_are_2 : goal.returns-clause-lists_are_2
returns-clause-lists_are_2 c = search for_ask_listed_sets
