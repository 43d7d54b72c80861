use Rattle.rules.proofs.SetNeeds.{for_rule13_scanned}
use Rattle.rules.proofs.sets.rule13_scanned.Goals as goal

pub returns-then-rule13_counts_sound : goal.returns-then-rule13_counts_sound
returns-then-rule13_counts_sound c = search for_rule13_scanned

pub returns-else-rule13_counts_sound : goal.returns-else-rule13_counts_sound
returns-else-rule13_counts_sound c = search for_rule13_scanned

pub returns-else-rule13_sets_differ : goal.returns-else-rule13_sets_differ
returns-else-rule13_sets_differ c = search for_rule13_scanned
