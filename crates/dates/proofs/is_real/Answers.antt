use Rattle.dates.proofs.DateLaws.{for_is_real}
use Rattle.dates.proofs.is_real.Goals as goal

pub returns-then-d-le-SHORTEST : goal.returns-then-d-le-SHORTEST
returns-then-d-le-SHORTEST c = search for_is_real
