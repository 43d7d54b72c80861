use Rattle.rules_plain.proofs.PlainNeeds.{for_birth}
use Rattle.rules_plain.proofs.ip25_birth.Goals as goal

pub returns-then-today-day : goal.returns-then-today-day
returns-then-today-day c = search for_birth

pub returns-else-today-day : goal.returns-else-today-day
returns-else-today-day c = search for_birth

pub returns-in-None : goal.returns-in-None
returns-in-None c = search for_birth
