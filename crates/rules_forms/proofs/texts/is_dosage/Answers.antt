use Rattle.rules_forms.proofs.DosageNeeds.{for_dosage}
use Rattle.rules_forms.proofs.texts.is_dosage.Goals as goal

pub returns-then-n-lt1 : goal.returns-then-n-lt1
returns-then-n-lt1 c = search for_dosage

pub returns-then-n-gt6 : goal.returns-then-n-gt6
returns-then-n-gt6 c = search for_dosage

pub returns-then-is_fraction : goal.returns-then-is_fraction
returns-then-is_fraction c = search for_dosage

pub returns-else-is_fraction : goal.returns-else-is_fraction
returns-else-is_fraction c = search for_dosage
