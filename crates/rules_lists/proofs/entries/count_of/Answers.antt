use Rattle.rules_lists.proofs.EntryNeeds.{for_count_of}
use Rattle.rules_lists.proofs.entries.count_of.Goals as goal

pub returns-then-counted-clause-value : goal.returns-then-counted-clause-value
returns-then-counted-clause-value c = search for_count_of

pub returns-then-counted-clause-upper_bound : goal.returns-then-counted-clause-upper_bound
returns-then-counted-clause-upper_bound c = search for_count_of
