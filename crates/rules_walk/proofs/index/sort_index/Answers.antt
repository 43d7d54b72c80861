use Rattle.rules_walk.proofs.IndexNeeds.{for_sort_index}
use Rattle.rules_walk.proofs.index.sort_index.Goals as goal

pub returns-then-n-gt-MOST_PLACES-clause-value : goal.returns-then-n-gt-MOST_PLACES-clause-value
returns-then-n-gt-MOST_PLACES-clause-value c = search for_sort_index

pub returns-then-n-gt-MOST_PLACES-clause-index_after :
    goal.returns-then-n-gt-MOST_PLACES-clause-index_after
returns-then-n-gt-MOST_PLACES-clause-index_after c = search for_sort_index

pub returns-then-index-n-clause-value : goal.returns-then-index-n-clause-value
returns-then-index-n-clause-value c = search for_sort_index

pub returns-then-index-n-clause-index_after : goal.returns-then-index-n-clause-index_after
returns-then-index-n-clause-index_after c = search for_sort_index

pub returns-clause-value : goal.returns-clause-value
returns-clause-value c = search for_sort_index

pub returns-clause-index_after : goal.returns-clause-index_after
returns-clause-index_after c = search for_sort_index
