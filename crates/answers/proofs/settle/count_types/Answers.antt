use Rattle.answers.proofs.SettleNeeds.{for_count_types}
use Rattle.answers.proofs.settle.count_types.Goals as goal

pub returns-then-added-index-clause-value : goal.returns-then-added-index-clause-value
returns-then-added-index-clause-value c = search for_count_types

pub returns-clause-value : goal.returns-clause-value
returns-clause-value c = search for_count_types

pub returns-clause-added_le_places_most : goal.returns-clause-added_le_places_most
returns-clause-added_le_places_most c = search for_count_types

pub returns-clause-deleted_le_places_most : goal.returns-clause-deleted_le_places_most
returns-clause-deleted_le_places_most c = search for_count_types
