use Rattle.dates.proofs.DateLaws.{for_days_in}
use Rattle.dates.proofs.days_in.Goals as goal

pub returns-then-is_leap : goal.returns-then-is_leap
returns-then-is_leap c = search for_days_in

pub returns-else-is_leap : goal.returns-else-is_leap
returns-else-is_leap c = search for_days_in

pub returns-in-4 : goal.returns-in-4
returns-in-4 c = search for_days_in

pub returns-in_default : goal.returns-in_default
returns-in_default c = search for_days_in
