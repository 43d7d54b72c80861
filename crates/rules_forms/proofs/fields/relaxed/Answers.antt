use Rattle.rules_forms.proofs.FieldNeeds.{for_relaxed}
use Rattle.rules_forms.proofs.fields.relaxed.Goals as goal

pub returns-then-same : goal.returns-then-same
returns-then-same c = search for_relaxed

pub returns-then-t20-eq0 : goal.returns-then-t20-eq0
returns-then-t20-eq0 c = search for_relaxed

pub returns-else-t20-eq0 : goal.returns-else-t20-eq0
returns-else-t20-eq0 c = search for_relaxed
