use Rattle.rules_forms.proofs.FormNeeds.{for_type}
use Rattle.rules_forms.proofs.texts.is_type.Goals as goal

pub returns-then-t-ne1 : goal.returns-then-t-ne1
returns-then-t-ne1 c = search for_type

pub returns-in-65 : goal.returns-in-65
returns-in-65 c = search for_type

pub returns-in-67 : goal.returns-in-67
returns-in-67 c = search for_type

pub returns-in-68 : goal.returns-in-68
returns-in-68 c = search for_type

pub returns-in_default : goal.returns-in_default
returns-in_default c = search for_type
