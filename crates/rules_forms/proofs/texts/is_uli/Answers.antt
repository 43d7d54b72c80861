use Rattle.rules_forms.proofs.FormNeeds.{for_uli}
use Rattle.rules_forms.proofs.texts.is_uli.Goals as goal

pub returns-then-t-ne9 : goal.returns-then-t-ne9
returns-then-t-ne9 c = search for_uli

pub returns : goal.returns
returns c = search for_uli
