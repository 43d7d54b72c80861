use Rattle.rules.proofs.LookNeeds.{for_vaccine_of}
use Rattle.rules.proofs.look.vaccine_of.Goals as goal

pub returns-then-k-eq-II : goal.returns-then-k-eq-II
returns-then-k-eq-II c = search for_vaccine_of

pub returns-else-k-eq-II : goal.returns-else-k-eq-II
returns-else-k-eq-II c = search for_vaccine_of
