use Rattle.rules_forms.proofs.FieldNeeds.{for_rule10_lacks}
use Rattle.rules_forms.proofs.fields.rule10_lacks.Goals as goal

pub returns-then-t-eq0 : goal.returns-then-t-eq0
returns-then-t-eq0 c = search for_rule10_lacks

pub returns-else-t-eq0 : goal.returns-else-t-eq0
returns-else-t-eq0 c = search for_rule10_lacks
