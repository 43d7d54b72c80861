use Rattle.dates.proofs.DateLaws.{for_is_end}
use Rattle.dates.proofs.Date.is_end.Goals as goal

pub returns-in-Some : goal.returns-in-Some
returns-in-Some c = search for_is_end

pub returns-in_default : goal.returns-in_default
returns-in_default c = search for_is_end
