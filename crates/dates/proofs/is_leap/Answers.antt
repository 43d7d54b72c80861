use Rattle.dates.proofs.DateLaws.{for_is_leap}
use Rattle.dates.proofs.is_leap.Goals as goal

pub returns-then-y-ne0 : goal.returns-then-y-ne0
returns-then-y-ne0 c = search for_is_leap

pub returns-else-y-ne0 : goal.returns-else-y-ne0
returns-else-y-ne0 c = search for_is_leap

pub returns-else-y-eq0 : goal.returns-else-y-eq0
returns-else-y-eq0 c = search for_is_leap
