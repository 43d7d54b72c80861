use Rattle.rules_forms.proofs.DosageNeeds.{for_fraction}
use Rattle.rules_forms.proofs.texts.is_fraction.Goals as goal

pub returns-then-t-eq0 : goal.returns-then-t-eq0
returns-then-t-eq0 c = search for_fraction

pub returns-then-t-ne46 : goal.returns-then-t-ne46
returns-then-t-ne46 c = search for_fraction

pub returns : goal.returns
returns c = search for_fraction
