use Rattle.rules_fields.proofs.CodeNeeds.{for_pair_of}
use Rattle.rules_fields.proofs.codes.pair_kind.Goals as goal

pub returns-then-kind-eq-II : goal.returns-then-kind-eq-II
returns-then-kind-eq-II c = search for_pair_of

pub returns-else-kind-eq-II : goal.returns-else-kind-eq-II
returns-else-kind-eq-II c = search for_pair_of
