use Rattle.rules_forms.proofs.ValueNeeds.{for_is_positive}
use Rattle.rules_forms.proofs.texts.is_positive.Goals as goal

pub returns-then-most-t : goal.returns-then-most-t
returns-then-most-t c = search for_is_positive

pub returns : goal.returns
returns c = search for_is_positive
