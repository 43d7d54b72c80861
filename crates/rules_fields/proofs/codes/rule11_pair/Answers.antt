use Rattle.rules_fields.proofs.CodeNeeds.{for_rule11_pair}
use Rattle.rules_fields.proofs.codes.rule11_pair.Goals as goal

pub returns-then-is_unpaired : goal.returns-then-is_unpaired
returns-then-is_unpaired c = search for_rule11_pair
