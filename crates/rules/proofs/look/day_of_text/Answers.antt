use Rattle.rules.proofs.LookNeeds.{for_day_of_text}
use Rattle.rules.proofs.look.day_of_text.Goals as goal

pub returns-in-Some : goal.returns-in-Some
returns-in-Some c = search for_day_of_text

pub returns-in-None : goal.returns-in-None
returns-in-None c = search for_day_of_text
