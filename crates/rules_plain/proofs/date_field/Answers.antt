use Rattle.rules_plain.proofs.PlainNeeds.{for_date}
use Rattle.rules_plain.proofs.date_field.Goals as goal

pub returns-in-Some : goal.returns-in-Some
returns-in-Some c = search for_date

pub returns-in-None : goal.returns-in-None
returns-in-None c = search for_date
