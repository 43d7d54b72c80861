use Rattle.rules_forms.proofs.ClassNeeds.{for_byte}
use Rattle.rules_forms.proofs.classes.is_letter.Goals as goal

pub returns-in-65-to-90 : goal.returns-in-65-to-90
returns-in-65-to-90 c = search for_byte

pub returns-in-97-to-122 : goal.returns-in-97-to-122
returns-in-97-to-122 c = search for_byte

pub returns-in_default : goal.returns-in_default
returns-in_default c = search for_byte

pub returns-in_default-2 : goal.returns-in_default-2
returns-in_default-2 c = search for_byte

pub returns-in_default-3 : goal.returns-in_default-3
returns-in_default-3 c = search for_byte
