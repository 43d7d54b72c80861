use Rattle.dates.proofs.DateLaws.{for_end_of}
use Rattle.dates.proofs.Date.end_of.Goals as goal

pub returns-then-same : goal.returns-then-same
returns-then-same c = search for_end_of

pub returns : goal.returns
returns c = search for_end_of
