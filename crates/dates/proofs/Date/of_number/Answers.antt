use Rattle.dates.proofs.DateLaws.{for_day_of}
use Rattle.dates.proofs.Date.of_number.Goals as goal

pub returns-then-is_day : goal.returns-then-is_day
returns-then-is_day c = search for_day_of

pub returns-else-is_day : goal.returns-else-is_day
returns-else-is_day c = search for_day_of
