use Rattle.rules_lists.proofs.ListNeeds.{for_counts_alike}
use Rattle.rules_lists.proofs.counts_alike.Goals as goal

pub returns-then-same_from_antigen : goal.returns-then-same_from_antigen
returns-then-same_from_antigen c = search for_counts_alike

pub returns : goal.returns
returns c = search for_counts_alike
