use Rattle.dates.proofs.DateLaws.{for_dated}
use Rattle.dates.proofs.Date.of.Goals as goal

pub returns-then-text-ne-WIDTH : goal.returns-then-text-ne-WIDTH
returns-then-text-ne-WIDTH c = search for_dated

pub returns-else-all_digits : goal.returns-else-all_digits
returns-else-all_digits c = search for_dated
