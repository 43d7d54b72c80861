use Rattle.rules_forms.proofs.FieldNeeds.{for_given}
use Rattle.rules_forms.proofs.fields.is_given.Goals as goal

pub returns-then-t-eq0 : goal.returns-then-t-eq0
returns-then-t-eq0 c = search for_given

pub returns : goal.returns
returns c = search for_given
