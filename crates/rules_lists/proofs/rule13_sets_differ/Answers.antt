use Rattle.rules_lists.proofs.ListNeeds.{for_rule13_sets_differ}
use Rattle.rules_lists.proofs.rule13_sets_differ.Goals as goal

pub returns-then-rule13_in_step : goal.returns-then-rule13_in_step
returns-then-rule13_in_step c = search for_rule13_sets_differ

pub returns-then-all_counted-2 : goal.returns-then-all_counted-2
returns-then-all_counted-2 c = search for_rule13_sets_differ

pub returns-else-all_counted-2 : goal.returns-else-all_counted-2
returns-else-all_counted-2 c = search for_rule13_sets_differ

pub returns-else-all_counted : goal.returns-else-all_counted
returns-else-all_counted c = search for_rule13_sets_differ
