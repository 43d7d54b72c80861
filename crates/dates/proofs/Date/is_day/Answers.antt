use Rattle.dates.proofs.DateLaws.{for_is_day}
use Rattle.dates.proofs.Date.is_day.Goals as goal

pub returns : goal.returns
returns c = search for_is_day
