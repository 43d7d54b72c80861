use Rattle.rules_forms.proofs.JudgedNeeds.{for_optional}
use Rattle.rules_forms.proofs.fields.is_optional.Goals as goal

pub returns-in-5 : goal.returns-in-5
returns-in-5 c = search for_optional

pub returns-in-9-to-15 : goal.returns-in-9-to-15
returns-in-9-to-15 c = search for_optional

pub returns-in_default-f : goal.returns-in_default-f
returns-in_default-f c = search for_optional

pub returns-in_default-f-3 : goal.returns-in_default-f-3
returns-in_default-f-3 c = search for_optional

pub returns-in-8 : goal.returns-in-8
returns-in-8 c = search for_optional

pub returns-in_default-f-2 : goal.returns-in_default-f-2
returns-in_default-f-2 c = search for_optional

pub returns-in_default : goal.returns-in_default
returns-in_default c = search for_optional
