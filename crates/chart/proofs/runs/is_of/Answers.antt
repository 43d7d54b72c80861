use Rattle.chart.proofs.RunNeeds.{for_is_of}
use Rattle.chart.proofs.runs.is_of.Goals as goal

pub returns-then-kind-a : goal.returns-then-kind-a
returns-then-kind-a c = search for_is_of

pub returns-else-kind-a : goal.returns-else-kind-a
returns-else-kind-a c = search for_is_of
