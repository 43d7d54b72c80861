use Rattle.rules_forms.proofs.ClassNeeds.{for_byte}
use Rattle.rules_forms.proofs.classes.is_graphic.Goals as goal

pub returns-in-33-to-126 : goal.returns-in-33-to-126
returns-in-33-to-126 c = search for_byte

pub returns-in_default : goal.returns-in_default
returns-in_default c = search for_byte

pub returns-in_default-2 : goal.returns-in_default-2
returns-in_default-2 c = search for_byte
