use Rattle.dates.proofs.DateLaws.{for_eight_digits}
use Rattle.dates.proofs.eight_digits.Goals as goal

pub returns-then-is_real : goal.returns-then-is_real
returns-then-is_real c = search for_eight_digits

pub returns-else-is_real : goal.returns-else-is_real
returns-else-is_real c = search for_eight_digits
