use Rattle.rules_forms.proofs.FieldNeeds.{for_basic}
use Rattle.rules_forms.proofs.fields.rules1_and_2.Goals as goal

pub returns-then-form_of : goal.returns-then-form_of
returns-then-form_of c = search for_basic

pub returns-else-form_of : goal.returns-else-form_of
returns-else-form_of c = search for_basic

pub returns-then-is_optional : goal.returns-then-is_optional
returns-then-is_optional c = search for_basic

pub returns-else-is_optional : goal.returns-else-is_optional
returns-else-is_optional c = search for_basic

pub returns-else-is_judged : goal.returns-else-is_judged
returns-else-is_judged c = search for_basic
