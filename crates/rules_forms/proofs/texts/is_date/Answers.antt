use Rattle.rules_forms.proofs.FormNeeds.{for_is_date}
use Rattle.rules_forms.proofs.texts.is_date.Goals as goal

pub returns-in-Some : goal.returns-in-Some
returns-in-Some c = search for_is_date

pub returns-in-None : goal.returns-in-None
returns-in-None c = search for_is_date
