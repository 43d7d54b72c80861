use Rattle.rules.proofs.LookNeeds.{for_day_of}
use Rattle.rules.proofs.look.day_of.Goals as goal

pub returns-in-4 : goal.returns-in-4
returns-in-4 c = search for_day_of

pub returns-in-5 : goal.returns-in-5
returns-in-5 c = search for_day_of

pub returns-in-6 : goal.returns-in-6
returns-in-6 c = search for_day_of

pub returns-in_default : goal.returns-in_default
returns-in_default c = search for_day_of
