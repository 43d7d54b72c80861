use Rattle.rules_lists.proofs.ListNeeds.{for_dose}
use Rattle.rules_lists.proofs.dose_of.Goals as goal

pub returns-then-is_count : goal.returns-then-is_count
returns-then-is_count c = search for_dose

pub returns-else-is_count : goal.returns-else-is_count
returns-else-is_count c = search for_dose
