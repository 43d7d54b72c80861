use Rattle.rules_forms.proofs.FormNeeds.{for_reason}
use Rattle.rules_forms.proofs.texts.is_reason.Goals as goal

pub returns-then-t-eq1 : goal.returns-then-t-eq1
returns-then-t-eq1 c = search for_reason

pub returns-then-t-ne2 : goal.returns-then-t-ne2
returns-then-t-ne2 c = search for_reason

pub returns-then-t-eq32 : goal.returns-then-t-eq32
returns-then-t-eq32 c = search for_reason

pub returns : goal.returns
returns c = search for_reason
