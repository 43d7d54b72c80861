use Rattle.rules_forms.proofs.FieldNeeds.{for_form_of}
use Rattle.rules_forms.proofs.fields.form_of.Goals as goal

pub returns-in_default : goal.returns-in_default
returns-in_default c = search for_form_of
